-- A described method of a class, and what it is written as.
use Rattle.std.specs.Prelude.{◌<◌, ◌+◌, ℕ, List, [], ◌∷◌, ◌++◌, length, replicate, slice_set, Option, Some, None}
use Rattle.std.specs.List.{flat_map}
use Rattle.jc_decode.specs.declared.symbols.Laid.{Laid}
use Rattle.jc_decode.specs.declared.symbols.LaidHandler.{LaidHandler}
use Rattle.cap_laying.specs.declared.member.Body.{Body}
use Rattle.cap_laying.specs.declared.member.Body.TheVariants.{Code, Header}
use Rattle.cap_laying.specs.declared.member.WrittenMember.{WrittenMember}
use Rattle.cap_laying.specs.HeaderBytes.{HeaderNumbers, header_bytes, header_size}

abbrev pub numbers_of : Laid → HeaderNumbers
numbers_of l = record { max_stack = l.max_stack; nargs = l.nargs; max_locals = l.max_locals }

-- its header, and the code after it, if it has any
abbrev pub body_bytes : Body → List ℕ
body_bytes (Code laid) = header_bytes (numbers_of laid.now) ++ laid.now.code
body_bytes (Header header) = header.now

abbrev pub body_size : Body → ℕ
body_size (Code laid) = header_size (numbers_of laid.now) + length laid.now.code
body_size (Header header) = length header.now

abbrev pub code_size : Body → ℕ
code_size (Code laid) = length laid.now.code
code_size (Header header) = 0

-- the bytes before the code
abbrev pub lead_size : Body → ℕ
lead_size (Code laid) = header_size (numbers_of laid.now)
lead_size (Header header) = length header.now

abbrev pub handlers_of : Body → List LaidHandler
handlers_of (Code laid) = laid.now.handlers
handlers_of (Header header) = []

-- a method at the offset at which it stood
abbrev pub put_member : List (Option WrittenMember) → WrittenMember → List (Option WrittenMember)
put_member table m = slice_set table m.offset (Some m)

-- several, one after the other
abbrev pub placed : List (Option WrittenMember) → List WrittenMember → List (Option WrittenMember)
placed table [] = table
placed table (m ∷ ms) = placed (put_member table m) ms

-- the methods by the offsets at which they stood, in an info of so many bytes
unfoldable pub by_offset : ℕ → List WrittenMember → List (Option WrittenMember)
by_offset size ms = placed (replicate size None) ms

-- ---- one after the other, in the order of these offsets

abbrev pub bytes_if : Option WrittenMember → List ℕ
bytes_if None = []
bytes_if (Some m) = body_bytes m.body

abbrev pub size_if : Option WrittenMember → ℕ
size_if None = 0
size_if (Some m) = body_size m.body

abbrev pub bodies : List (Option WrittenMember) → List ℕ
bodies table = flat_map bytes_if table

-- the offset after the methods, where the first begins at a place
abbrev pub methods_end_from : ℕ → List (Option WrittenMember) → ℕ
methods_end_from at [] = at
methods_end_from at (m ∷ ms) = methods_end_from (at + size_if m) ms

-- the offsets lie in an info of so many bytes
abbrev pub AreWithin : ℕ → List WrittenMember → Type 0
AreWithin size [] = Unit {0}
AreWithin size (m ∷ ms) = (m.offset < size) × AreWithin size ms
