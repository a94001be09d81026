-- The static fields of a package (JCVM 2.2, sections 6.10 and 6.13): where each stands in the image, and what holds there.
use Rattle.std.specs.Prelude.{◌≡◌, ℕ, ◌+◌, ◌*◌, true, false, List, [], ◌∷◌, Some, All, slice_get, ◌==◌}
use Rattle.std.specs.List.{filter_map}
use Rattle.cap_method.specs.StaticFormat.{Array, Statics}
use Rattle.cap_desc.specs.TypeFormat.{is_type}
use Rattle.cap_desc.specs.MembersLeft.{fields_of_left}
use Rattle.cap_package.specs.declared.statics.StaticPlaces.{StaticPlaces}
use Rattle.cap_components.specs.Descriptions.{description}
use Rattle.cap_package.specs.StaticChecks.{ImagePlace, place_in, is_in_image}
use Rattle.cap_components.specs.PackageRecord.{PackageRecord, fields}

-- the places of the static fields, in the order of the Descriptor
abbrev pub static_places : PackageRecord → List ImagePlace
static_places p = filter_map (place_in p.description) (fields p)

-- those that an iterator has left
abbrev pub places_left : StaticPlaces → List ImagePlace
places_left x = filter_map (place_in (description x.descriptor)) (fields_of_left x.fields)

-- a place of a static field of a package
pub record IsStaticPlace (s : Statics) (p : ImagePlace) : Type 0 where
  -- the type is one of a field
  pub typed : is_type p.ty.nibble ≡ true
  pub no_void : (p.ty.nibble == 1) ≡ false
  -- it lies in the part of the image for its kind
  pub inside : is_in_image s p ≡ true
  -- where an initial array fills it, it is of that array's type
  pub filled : (k : ℕ) (a : Array) → slice_get s.arrays k ≡ Some a → p.offset ≡ 2 * k → p.ty.nibble ≡ a.kind + 8

-- no two places have one offset
abbrev pub AreApart : List ImagePlace → Type 0
AreApart [] = Unit {0}
AreApart (p ∷ others) = All (λ (q : ImagePlace). p.offset ≡ q.offset → ⊥) others × AreApart others
