-- Where methods stand that are written one after the other.
use Rattle.std.specs.Prelude.{◌≤◌, ◌+◌, ℕ, List, [], ◌∷◌, length, Option, Some, None, slice_index}
use Rattle.cap_renewal.specs.declared.new_methods.NewMethod.{NewMethod}
use Rattle.cap_laying.specs.declared.member.Body.{Body}
use Rattle.cap_laying.specs.declared.member.Body.TheVariants.{Code, Header}
use Rattle.cap_laying.specs.declared.member.WrittenMember.{WrittenMember}
use Rattle.cap_laying.specs.Member.{code_size, handlers_of, size_if}

-- the numbers of a method that stands at a place now; `indexes` tells its first entry of the handler table by its former
-- offset
abbrev pub new_method : List ℕ → ℕ → WrittenMember → NewMethod
new_method indexes at m = record {
  offset = at;
  bytecode_count = code_size m.body;
  handler_count = length (handlers_of m.body);
  handler_index = slice_index indexes m.offset;
}

abbrev pub new_if : List ℕ → ℕ → Option WrittenMember → Option NewMethod
new_if indexes at None = None
new_if indexes at (Some m) = Some (new_method indexes at m)

-- each begins where the one before it ends
abbrev pub news_from : List ℕ → ℕ → List (Option WrittenMember) → List (Option NewMethod)
news_from indexes at [] = []
news_from indexes at (m ∷ ms) = new_if indexes at m ∷ news_from indexes (at + size_if m) ms

-- a method of a class file's size: at most 32,767 bytes of code and 255 handlers, or a header of at most four bytes
abbrev pub IsSmallBody : Body → Type 0
IsSmallBody (Code laid) = (length laid.now.code ≤ 32767) × (length laid.now.handlers ≤ 255)
IsSmallBody (Header header) = length header.now ≤ 4

abbrev pub IsSmallIf : Option WrittenMember → Type 0
IsSmallIf None = Unit {0}
IsSmallIf (Some m) = IsSmallBody m.body

abbrev pub AreSmallBodies : List (Option WrittenMember) → Type 0
AreSmallBodies [] = Unit {0}
AreSmallBodies (m ∷ ms) = IsSmallIf m × AreSmallBodies ms
