-- The types of a world stand for the items that they are told for.
use Rattle.std.proofs.Common.{◌≡◌, ℕ, zero, suc, ◌+◌, refl, arith}
use Rattle.std.specs.Prelude.{List}
use Rattle.cap_desc.specs.declared.type_list.TypeItem.{TypeItem}
use Rattle.cap_package.specs.PackageRecord.{PackageRecord}
use Rattle.jc_resolve.specs.WorldTypes.{type_of}
use Rattle.jc_resolve.proofs.ItemKinds.{kind_right}
use Rattle.jc_link.specs.Arrays.{array_type}
use Rattle.jc_link.specs.KnownFields.{IsPrimitive, AreTold}

array_right : (ps : List PackageRecord) (object k : ℕ) (t : TypeItem) (kind : ℕ) → IsPrimitive kind → t.nibble ≡ kind + 8
    → type_of ps object k t ≡ array_type kind
unfolding type_of
array_right ps object k t zero p e = absurd (omega (arith, p.low))
array_right ps object k t (suc zero) p e = absurd (omega (arith, p.low))
array_right ps object k t (suc (suc zero)) p e = let n : t.nibble ≡ 10 = e in rw n refl
array_right ps object k t (suc (suc (suc zero))) p e = let n : t.nibble ≡ 11 = e in rw n refl
array_right ps object k t (suc (suc (suc (suc zero)))) p e = let n : t.nibble ≡ 12 = e in rw n refl
array_right ps object k t (suc (suc (suc (suc (suc zero))))) p e = let n : t.nibble ≡ 13 = e in rw n refl
array_right ps object k t (suc (suc (suc (suc (suc (suc kind)))))) p e = absurd (omega (arith, p.high))

-- the types of packages' items are told by what they stand for
pub types_told : (ps : List PackageRecord) (object : ℕ) → AreTold (type_of ps object)
types_told ps object k t typed void = record { kind = kind_right ps object k t typed void; array = λ kind p e. array_right ps object k t kind p e }
