-- What holds of packages, and so of the types and the words of their static fields.
use Rattle.std.specs.Prelude.{◌≡◌, ℕ, ◌+◌, ◌≤◌, true, false, List, [], ◌∷◌, ◌==◌, All}
use Rattle.jc_base.specs.declared.ty.Ty.{Ty}
use Rattle.jc_base.specs.declared.record.StaticRec.{StaticRec}
use Rattle.jc_base.specs.Cell.{IsOfKind}
use Rattle.cap_method.specs.StaticFormat.{Array}
use Rattle.cap_desc.specs.declared.type_list.TypeItem.{TypeItem}
use Rattle.cap_desc.specs.TypeFormat.{is_type}
use Rattle.cap_package.specs.PackageRecord.{PackageRecord}
use Rattle.cap_package.specs.StaticPlaces.{static_places, AreApart, IsStaticPlace}
use Rattle.jc_link.specs.Arrays.{array_type}
use Rattle.jc_resolve.specs.WorldTypes.{kind_of}

-- the number of a primitive type: boolean, byte, short or int
pub record IsPrimitive (kind : ℕ) : Type 0 where
  pub low : 2 ≤ kind
  pub high : kind ≤ 5

-- a type that stands for an item: of its kind, and for an array of primitives the array type
pub record StandsForItem (t : TypeItem) (ty : Ty) : Type 0 where
  pub kind : IsOfKind (kind_of t) ty
  pub array : (kind : ℕ) → IsPrimitive kind → t.nibble ≡ kind + 8 → ty ≡ array_type kind

-- the types that are told stand for the types of fields
abbrev pub AreTold : (ℕ → TypeItem → Ty) → Type 0
AreTold told = (k : ℕ) (t : TypeItem) → is_type t.nibble ≡ true → (t.nibble == 1) ≡ false → StandsForItem t (told k t)

-- each static field of a package lies in its image, and each initial array has primitives
pub record AreStaticsKnown (p : PackageRecord) : Type 0 where
  pub places : All (IsStaticPlace p.statics) (static_places p)
  pub apart : AreApart (static_places p)
  pub arrays : All (λ (a : Array). IsPrimitive a.kind) p.statics.arrays

-- no two static fields stand at one place of one package
abbrev pub StandApart : List StaticRec → Type 0
StandApart [] = Unit {0}
StandApart (f ∷ fields) = All (λ (g : StaticRec). f.package ≡ g.package → f.offset ≡ g.offset → ⊥) fields × StandApart fields
