-- The order in which a Load file has the components of a package.
use Rattle.std.specs.Prelude.{◌≡◌, ℕ, Bool, true, false, List, [], ◌∷◌, Option, Some, None, IsSome, position, ◌==◌}
use Rattle.std.specs.Prelude.{nat_le, nat_lt, ◌&&◌, if◌then◌else◌}
use Rattle.std.specs.List.{AllByRecursion}

-- the components of the standard by their tags: Header, Directory, Import, Applet, Class, Method, StaticField, Export, ConstantPool,
-- ReferenceLocation, Descriptor
abbrev pub components : List ℕ
components = 1 ∷ 2 ∷ 4 ∷ 3 ∷ 6 ∷ 7 ∷ 8 ∷ 10 ∷ 5 ∷ 9 ∷ 11 ∷ []

-- the place of a component, by its tag: in that list, and after it, by the tag, where it is a custom one (128 to 255); others have none
unfoldable pub place : ℕ → Option ℕ
place tag = if nat_le 128 tag && nat_lt tag 256 then Some tag else position (λ t. t == tag) components

abbrev pub is_below : Option ℕ → Option ℕ → Bool
is_below (Some m) (Some n) = nat_lt m n
is_below (Some m) None = false
is_below None n = false

-- the components of these two tags have places, and the first comes before the second
unfoldable pub comes_before : ℕ → ℕ → Bool
comes_before first second = is_below (place first) (place second)

-- each tag has a place, and comes before all that follow it
abbrev pub InOrder : List ℕ → Type 0
InOrder [] = Unit {0}
InOrder (tag ∷ tags) = IsSome (place tag) × AllByRecursion (λ later. comes_before tag later ≡ true) tags × InOrder tags
