-- The instructions of a bare method's code, and when the code is well formed (JCVM 2.2, section 7.5).
use Rattle.std.specs.Prelude.{ℕ, ℤ, pos, ◌≡◌, ◌≢◌, ◌≤◌, List, [], ◌∷◌, length, Contains, Option, Some, None}
use Rattle.std.specs.Prelude.{Result, Err, if◌then◌else◌}
use Rattle.std.proofs.Common.{refl}
use Rattle.std.specs.List.{take_while}
use Rattle.cap_bytes.specs.Number.{number_at}
use Rattle.jc_decode.specs.declared.insn.Insn.{Insn}
use Rattle.jc_decode.specs.declared.insn.Placed.{Placed}
use Rattle.jc_decode.specs.declared.insn.CodeEnd.{CodeEnd}
use Rattle.jc_decode.specs.declared.insn.CodeEnd.TheVariants.{OutOfScope}
use Rattle.jc_decode.specs.Decoding.{decoded}
use Rattle.jc_decode.specs.Layout.{layout_of, opcode}
use Rattle.jc_decode.specs.Listing.{at_most, listing_from, end_from, targets}
use Rattle.jc_decode.specs.Places.{BeginsIn, IsTargetPlaceIn, AllLeadInto, IsTargetIn}
use Rattle.cap_bare.specs.declared.fault.BareFault.{BareFault}
use Rattle.cap_bare.specs.declared.fault.BareKind.{BareKind}
use Rattle.cap_bare.specs.declared.fault.BareKind.TheVariants.{Code, BadTarget}
use Rattle.cap_bare.specs.Format.{instruction_format, is_bare}

-- what is decoded where this opcode stands: one that bare methods do not have is out of scope, whatever follows it
abbrev pub in_scope : Option ℕ → Result Insn CodeEnd → Result Insn CodeEnd
in_scope None found = found
in_scope (Some opcode) found = if is_bare opcode then found else Err (OutOfScope opcode)

-- the instruction that begins at a place
unfoldable pub fetched : List ℕ → ℕ → Result Insn CodeEnd
fetched code at = in_scope (number_at 1 at code) (decoded code at)

-- the instructions of the code from a place on, up to the first that bare methods do not have
unfoldable pub instructions_from : List ℕ → ℕ → List Placed
instructions_from code at = take_while (λ i. is_bare i.insn.op) (listing_from code at)

abbrev pub instructions : List ℕ → List Placed
instructions code = instructions_from code 0

-- where they end
abbrev pub instructions_end : List ℕ → ℕ
instructions_end code = end_from 0 (instructions code)

-- i is one of the instructions of the code
abbrev pub HasInstruction : List ℕ → Placed → Type 0
HasInstruction code i = Contains (instructions code) i

-- an instruction of the code begins at this place
abbrev pub IsPlace : List ℕ → ℕ → Type 0
IsPlace code place = BeginsIn (instructions code) place

abbrev pub IsTargetPlace : List ℕ → ℤ → Type 0
IsTargetPlace code target = IsTargetPlaceIn (instructions code) target

-- a branch of the code leads to this place
abbrev pub IsTarget : List ℕ → ℕ → Type 0
IsTarget code place = IsTargetIn code (instructions code) place

-- the code decodes to its end, and each branch leads to the place of an instruction
pub record IsWellFormed (code : List ℕ) : Type 0 where
  pub ends : instructions_end code ≡ length code
  pub leads : AllLeadInto code (instructions code)

abbrev pub fault : ℕ → BareKind → BareFault
fault place kind = record { place = place; kind = kind }

-- a place that keeps the code from being well formed: no instruction is there though the code goes on, or the
-- branch there leads to no place
pub data IsFlaw (code : List ℕ) : BareFault → Type 0 where
  flaw_end : (end : CodeEnd) → instructions_end code ≢ length code → fetched code (instructions_end code) ≡ Err end
      → IsFlaw code (fault (instructions_end code) (Code end))
  flaw_target : (i : Placed) (target : ℤ) → HasInstruction code i → Contains (targets code i) target
      → ¬ (IsTargetPlace code target)
      → IsFlaw code (fault i.place (BadTarget target))

-- the flaw at the least place
pub record IsFirstFlaw (code : List ℕ) (first : BareFault) : Type 0 where
  pub flaw : IsFlaw code first
  pub least : (other : BareFault) → IsFlaw code other → first.place ≤ other.place

-- the kinds of flaws
abbrev pub IsFlawKind : BareKind → Type 0
IsFlawKind (Code end) = Unit {0}
IsFlawKind (BadTarget target) = Unit {0}
IsFlawKind _ = ⊥

-- sconst_0, and an invokestatic, which bare methods do not have
stops : instructions (3 ∷ 141 ∷ 0 ∷ 0 ∷ [])
    ≡ record { place = 0; insn = record { op = 3; x = pos 0; y = pos 0; z = pos 0; len = 1 } } ∷ []
unfolding instructions_from listing_from at_most decoded layout_of opcode instruction_format
stops = refl

-- half a goto_w is out of scope too
half : fetched (168 ∷ 0 ∷ []) 0 ≡ Err (OutOfScope 168)
unfolding fetched decoded layout_of opcode instruction_format
half = refl
