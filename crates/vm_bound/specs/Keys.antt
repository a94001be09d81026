-- Meanings are equal where their parts are, which makes them keys of a table.
use Rattle.std.proofs.Common.{◌≡◌, ◌&&◌, Bool, true, false, refl, sym, ◌∙◌, ap, ap₂, subst}
use Rattle.std.specs.Prelude.{◌==◌, IsTrue}
use Rattle.std.specs.Cmp.{IsPartialEquivalence, IsEquivalence}
use Rattle.std.specs.Hash.{u32}
use Rattle.std.proofs.lemmas.Bool.{and_parts, eqb-true, eq-eqb, false≢true}
use Rattle.vm_bound.specs.declared.graph.Meaning.{Meaning}
use Rattle.vm_bound.specs.declared.graph.Meaning.TheVariants.{Described, Entries, Span}
use Rattle.vm_bound.specs.Vertices.{same_meaning, meaning_code}

pub meaning-equal : (a b : Meaning) → same_meaning a b ≡ true → a ≡ b
meaning-equal (Described m) (Described n) e = ap Described (eqb-true m n e)
meaning-equal (Entries c token) (Entries d other) e =
    let both = and_parts (c == d) (token == other) e in
    ap₂ Entries (eqb-true c d both.0) (eqb-true token other both.1)
meaning-equal (Span x token) (Span y other) e =
    let both = and_parts (x == y) (token == other) e in
    ap₂ Span (eqb-true x y both.0) (eqb-true token other both.1)
meaning-equal a b e = absurd (false≢true e)

pub meaning-same : (a : Meaning) → same_meaning a a ≡ true
meaning-same (Described m) = eq-eqb m m refl
meaning-same (Entries c token) = ap₂ ◌&&◌ (eq-eqb c c refl) (eq-eqb token token refl)
meaning-same (Span x token) = ap₂ ◌&&◌ (eq-eqb x x refl) (eq-eqb token token refl)

same-sym : (a b : Meaning) → same_meaning a b ≡ same_meaning b a
same-sym a b = by (same_meaning a b) (same_meaning b a) refl refl
  where
    by : (x y : Bool) → same_meaning a b ≡ x → same_meaning b a ≡ y → x ≡ y
    by true true e f = refl
    by false false e f = refl
    by true false e f = sym (sym f ∙ (subst (λ k. same_meaning k a ≡ true) (meaning-equal a b e) (meaning-same a)))
    by false true e f = sym e ∙ subst (λ k. same_meaning k b ≡ true) (meaning-equal b a f) (meaning-same b)

pub meanings-partial : IsPartialEquivalence same_meaning
meanings-partial = record {
  symm = same-sym;
  trans = λ a b c e f. subst (λ k. same_meaning k c ≡ true) (sym (meaning-equal a b e)) f;
}

pub meanings-equivalence : IsEquivalence same_meaning
meanings-equivalence = record {
  refl = meaning-same;
  symm = same-sym;
  congr = λ a b c e. ap (λ k. same_meaning k c) (meaning-equal a b e);
}

pub meanings-coded : (a b : Meaning) → IsTrue (same_meaning a b) → u32 (meaning_code a) ≡ u32 (meaning_code b)
meanings-coded a b e = ap (λ (m : Meaning). u32 (meaning_code m)) (meaning-equal a b e)
