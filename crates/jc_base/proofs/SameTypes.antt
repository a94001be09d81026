-- Types that are computed to be the same are equal.
use Rattle.std.proofs.Common.{arith}
use Rattle.std.proofs.Common.{◌≡◌, true, subst}
use Rattle.std.specs.Prelude.{◌↔◌, IsTrue}
use Rattle.std.proofs.lemmas.Bool.{false≢true, eqb-true, eq-eqb, and_parts}
use Rattle.jc_base.specs.declared.ty.Ty.{Ty}
use Rattle.jc_base.specs.SameType.{same_type}

pub same_type-equal : (a b : Ty) → same_type a b ≡ true → a ≡ b
unfolding same_type
same_type-equal a b e = grind (arith, eqb-true, and_parts, false≢true)

pub same_type-itself : (a : Ty) → same_type a a ≡ true
unfolding same_type
same_type-itself a = grind (arith, eq-eqb)

pub same_type-decides : (a b : Ty) → IsTrue (same_type a b) ↔ (a ≡ b)
same_type-decides a b = (same_type-equal a b, λ e. subst (λ x. same_type a x ≡ true) e (same_type-itself a))
