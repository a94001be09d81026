-- The type of a world that an item stands for is of the item's kind.
use Rattle.std.proofs.Common.{◌≡◌, ℕ, zero, suc, ◌≤◌, true, false, eqb, leb, refl, arith}
use Rattle.std.specs.Prelude.{List}
use Rattle.std.proofs.lemmas.Bool.{leb-true}
use Rattle.jc_base.specs.Cell.{IsOfKind}
use Rattle.cap_desc.specs.declared.type_list.TypeItem.{TypeItem}
use Rattle.cap_desc.specs.TypeFormat.{is_type}
use Rattle.cap_package.specs.PackageRecord.{PackageRecord}
use Rattle.jc_resolve.specs.WorldTypes.{type_of, kind_of}

type_small : (n : ℕ) → is_type n ≡ true → n ≤ 14
type_small n h = grind (arith, leb, leb-true)

by_nibble : (ps : List PackageRecord) (object k n r : ℕ) → is_type n ≡ true → eqb n 1 ≡ false
    → IsOfKind (kind_of (record { nibble = n; class_ref = r })) (type_of ps object k (record { nibble = n; class_ref = r }))
unfolding kind_of type_of
by_nibble ps object k zero r typed void = absurd cc
by_nibble ps object k (suc zero) r typed void = absurd cc
by_nibble ps object k (suc (suc zero)) r typed void = refl
by_nibble ps object k (suc (suc (suc zero))) r typed void = refl
by_nibble ps object k (suc (suc (suc (suc zero)))) r typed void = refl
by_nibble ps object k (suc (suc (suc (suc (suc zero))))) r typed void = refl
by_nibble ps object k (suc (suc (suc (suc (suc (suc zero)))))) r typed void = tt
by_nibble ps object k (suc (suc (suc (suc (suc (suc (suc zero))))))) r typed void = absurd cc
by_nibble ps object k (suc (suc (suc (suc (suc (suc (suc (suc zero)))))))) r typed void = absurd cc
by_nibble ps object k (suc (suc (suc (suc (suc (suc (suc (suc (suc zero))))))))) r typed void = absurd cc
by_nibble ps object k (suc (suc (suc (suc (suc (suc (suc (suc (suc (suc zero)))))))))) r typed void = tt
by_nibble ps object k (suc (suc (suc (suc (suc (suc (suc (suc (suc (suc (suc zero))))))))))) r typed void = tt
by_nibble ps object k (suc (suc (suc (suc (suc (suc (suc (suc (suc (suc (suc (suc zero)))))))))))) r typed void = tt
by_nibble ps object k (suc (suc (suc (suc (suc (suc (suc (suc (suc (suc (suc (suc (suc zero))))))))))))) r typed void = tt
by_nibble ps object k (suc (suc (suc (suc (suc (suc (suc (suc (suc (suc (suc (suc (suc (suc zero)))))))))))))) r typed void = tt
by_nibble ps object k (suc (suc (suc (suc (suc (suc (suc (suc (suc (suc (suc (suc (suc (suc (suc n))))))))))))))) r typed void =
    absurd (let small = type_small (suc (suc (suc (suc (suc (suc (suc (suc (suc (suc (suc (suc (suc (suc (suc n))))))))))))))) typed in omega arith)

-- an item that is a type, and not void
pub kind_right : (ps : List PackageRecord) (object k : ℕ) (t : TypeItem) → is_type t.nibble ≡ true → eqb t.nibble 1 ≡ false
    → IsOfKind (kind_of t) (type_of ps object k t)
kind_right ps object k t typed void = by_nibble ps object k t.nibble t.class_ref typed void
