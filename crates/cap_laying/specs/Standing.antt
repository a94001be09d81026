-- Where a method stands in a component that is written anew.
use Rattle.std.specs.Prelude.{◌≡◌, ℕ, List, [], ◌∷◌, Some, take, drop}
use Rattle.cap_renewal.specs.NewMethods.{at_offset, to}
use Rattle.cap_laying.specs.declared.member.WrittenMember.{WrittenMember}
use Rattle.cap_laying.specs.Member.{body_bytes, body_size}
use Rattle.cap_laying.specs.NewPlaces.{new_method}
use Rattle.cap_laying.specs.Blocks.{blocks, handler_indexes}
use Rattle.cap_laying.specs.Members.{MayBeWritten, new_places, written_info}

-- its header and its code stand at its new offset, inside the info, and its numbers are told of it
pub record StandsAnew (size room : ℕ) (all : List WrittenMember) (m : WrittenMember) : Type 0 where
  pub bytes : take (body_size m.body) (drop (to (new_places size room all) m.offset) (written_info size room all))
      ≡ body_bytes m.body
  pub numbers : at_offset (new_places size room all) m.offset
      ≡ Some (new_method (handler_indexes size (blocks room all)) (to (new_places size room all) m.offset) m)

abbrev pub AllStand : ℕ → ℕ → List WrittenMember → List WrittenMember → Type 0
AllStand size room all [] = Unit {0}
AllStand size room all (m ∷ ms) = StandsAnew size room all m × AllStand size room all ms

-- each of the methods that are written stands at its new offset
abbrev pub WrittenMethodsStand : Type 0
WrittenMethodsStand = (size room : ℕ) (ms : List WrittenMember) → MayBeWritten size ms → AllStand size room ms ms
