-- The info of a bare method's file: a Method component with no handler and one method (JCVM 2.2, section 6.9).
use Rattle.std.specs.Prelude.{ℕ, ◌/◌, ◌%◌, ◌<◌, ◌≡◌, ◌⊎◌, ◌==◌, List, length}
use Rattle.cap_bytes.specs.Grammar.{Grammar, give, number, u1, rest, that, ◌>>=◌}
use Rattle.cap_bytes.specs.Spelling.{Stands, Breaks, info_of}
use Rattle.cap_components.specs.declared.fault.PackFault.{PackFault}
use Rattle.cap_components.specs.declared.fault.PackFault.TheVariants.{Form, MethodLength}
use Rattle.cap_bare.specs.declared.format.Bare.{Bare}

-- a header, and the bytes of the code
pub record MethodFile : Type 0 where
  pub bare : Bare
  pub code : List ℕ

-- a compact header: two bytes of two numbers of four bits each, the flags and max_stack, nargs and max_locals; no
-- flag is set
abbrev pub compact_header : Grammar Bare
compact_header = do
  flags_and_stack ← number 1 (that (λ n. n / 16 == 0))
  counts ← u1
  give (record { nargs = counts / 16; max_locals = counts % 16; max_stack = flags_and_stack % 16 })

-- a handler_count of 0, the header, and the code to the end
abbrev pub method_info : Grammar MethodFile
method_info = do
  handler_count ← number 1 (that (λ n. n == 0))
  bare ← compact_header
  code ← rest
  give (record { bare = bare; code = code })

-- the offset in the info at which the method stands
abbrev pub METHOD_OFFSET : ℕ
METHOD_OFFSET = 1

-- a code is of 1 to 32,767 bytes (JCVM 2.2, section 2.2.4.3)
abbrev pub IsBadLength : ℕ → Type 0
IsBadLength n = (n ≡ 0) ⊎ (32767 < n)

-- why an info is that of no bare method: the first item that breaks its format, or else the length of its code
abbrev pub IsFileFault : List ℕ → PackFault → Type 0
IsFileFault bytes (Form fault) = Breaks (info_of 7) method_info bytes 0 fault
IsFileFault bytes (MethodLength offset n) =
    (file : MethodFile) × Stands method_info bytes file × (offset ≡ METHOD_OFFSET) × (n ≡ length file.code) × IsBadLength n
IsFileFault bytes _ = ⊥
