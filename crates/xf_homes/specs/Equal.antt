-- Homes are equal where slot and type are, which makes them keys of a table.
use Rattle.std.proofs.Common.{◌≡◌, ℕ, ◌&&◌, Bool, true, false, refl, sym, ◌∙◌, ap, ap₂, subst}
use Rattle.std.specs.Prelude.{◌==◌, IsTrue}
use Rattle.std.specs.Cmp.{IsPartialEquivalence, IsEquivalence}
use Rattle.std.specs.Hash.{u64}
use Rattle.std.proofs.lemmas.Bool.{and_parts, eqb-true, eq-eqb}
use Rattle.jc_base.specs.declared.ty.Ty.{Ty}
use Rattle.jc_base.specs.SameType.{same_type}
use Rattle.jc_base.proofs.SameTypes.{same_type-equal, same_type-itself}
use Rattle.xf_homes.specs.declared.home.Home.{Home}
use Rattle.xf_homes.specs.Hashed.{home_code}
use Rattle.xf_homes.specs.Walk.{same_home}

pub home-equal : (a b : Home) → same_home a b ≡ true → a ≡ b
home-equal a b e =
    let both = and_parts (a.slot == b.slot) (same_type a.ty b.ty) e in
    let slots : a.slot ≡ b.slot = eqb-true a.slot b.slot both.0 in
    let types : a.ty ≡ b.ty = same_type-equal a.ty b.ty both.1 in
    ap (λ (n : ℕ). record { slot = n; ty = a.ty }) slots ∙ ap (λ (t : Ty). record { slot = b.slot; ty = t }) types

pub home-same : (a : Home) → same_home a a ≡ true
home-same a = ap₂ ◌&&◌ (eq-eqb a.slot a.slot refl) (same_type-itself a.ty)

same-sym : (a b : Home) → same_home a b ≡ same_home b a
same-sym a b = by (same_home a b) (same_home b a) refl refl
  where
    by : (x y : Bool) → same_home a b ≡ x → same_home b a ≡ y → x ≡ y
    by true true e f = refl
    by false false e f = refl
    by true false e f = sym (sym f ∙ (subst (λ k. same_home k a ≡ true) (home-equal a b e) (home-same a)))
    by false true e f = sym e ∙ subst (λ k. same_home k b ≡ true) (home-equal b a f) (home-same b)

pub homes-partial : IsPartialEquivalence (λ (a b : Home). same_home b a)
homes-partial = record {
  symm = λ a b. same-sym b a;
  trans = λ a b c e f. subst (λ k. same_home c k ≡ true) (home-equal b a e) f;
}

pub homes-equivalence : IsEquivalence (λ (a b : Home). same_home b a)
homes-equivalence = record {
  refl = home-same;
  symm = λ a b. same-sym b a;
  congr = λ a b c e. ap (same_home c) (sym (home-equal b a e));
}

pub homes-coded : (a b : Home) → IsTrue (same_home b a) → u64 (home_code a) ≡ u64 (home_code b)
homes-coded a b e = ap (λ (h : Home). u64 (home_code h)) (sym (home-equal b a e))
