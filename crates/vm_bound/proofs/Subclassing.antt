-- Direct subclasses, found in one pass.
use Rattle.std.proofs.Common.{◌≡◌, ℕ, ◌+◌, ◌<◌, inl, inr, ⊎_elim, set, List, [], ◌∷◌, ◌++◌, length, refl, sym, ap, ◌∙◌, subst, arith}
use Rattle.std.specs.Prelude.{Option, Some, None, Contains, slice_get}
use Rattle.std.proofs.lemmas.Bool.{cases_lt, cases_eq}
use Rattle.std.proofs.lemmas.Option.{same_Some, slice_get_within, get_or_from_slice_get}
use Rattle.std.proofs.lemmas.List.{length-set, get_or-set_same, get_or-set_other}
use Rattle.std.proofs.lemmas.List.Elements.{Contains-append_left, Contains-push, Contains-push_cases}
use Rattle.jc_base.specs.Class.{ClassTable, IsClass, parent_of}
use Rattle.jc_base.proofs.Climbs.{parent_of-class}
use Rattle.digraph.specs.Graph.{next}
use Rattle.vm_bound.specs.Rows.{AreAllSubclasses, IsAdded}

pub added : (c d : ℕ) (old new : List (List ℕ)) (before after : List ℕ) → slice_get old c ≡ Some before → after ≡ before ++ d ∷ []
    → new ≡ set old c after → IsAdded old c d new
added c d old new before after found e is = record { before = before; found = found; set_is = is ∙ ap (set old c) e }

pub ruleset adding = (added)

-- what is added stands last in its row, and the others stay
module _ (c d : ℕ) (old new : List (List ℕ)) (is : IsAdded old c d new) where
  pub added-inside : c < length old
  added-inside = slice_get_within old c is.before is.found

  pub added-count : length new ≡ length old
  added-count = ap length is.set_is ∙ length-set old c (is.before ++ d ∷ [])

  pub added-here : next new c ≡ next old c ++ d ∷ []
  added-here = grind (arith, get_or-set_same, added-inside, get_or_from_slice_get)

  pub added-there : (k : ℕ) → ¬ (k ≡ c) → next new k ≡ next old k
  added-there k not = grind (arith, get_or-set_other)

-- the rows have the direct subclasses among the classes below a bound
pub record AreSubclassesBelow (t : ClassTable) (bound : ℕ) (rows : List (List ℕ)) : Type 0 where
  pub only : (c d : ℕ) → Contains (next rows c) d → parent_of t d ≡ Some c
  pub all : (c d : ℕ) → c < length rows → d < bound → parent_of t d ≡ Some c → Contains (next rows c) d

module _ (t : ClassTable) where
  pub subclasses-is : (d p : ℕ) (old new : List (List ℕ)) → parent_of t d ≡ Some p → IsAdded old p d new → AreSubclassesBelow t d old
      → AreSubclassesBelow t (d + 1) new
  subclasses-is d p old new link is before = record { only = only; all = all }
    where
      only : (c k : ℕ) → Contains (next new c) k → parent_of t k ≡ Some c
      only c k h = elim (cases_eq c p) [
        | inl e ↦
            let pushed : Contains (next old p ++ d ∷ []) k =
            subst (λ (row : List ℕ). Contains row k) (added-here p d old new is) (subst (λ (x : ℕ). Contains (next new x) k) e h) in
            subst (λ (x : ℕ). parent_of t k ≡ Some x) (sym e)
            (⊎_elim (λ was. before.only p k was) (λ same. subst (λ (x : ℕ). parent_of t x ≡ Some p) same link)
            (Contains-push_cases (next old p) d k pushed))
        | inr not ↦ before.only c k (subst (λ (row : List ℕ). Contains row k) (added-there p d old new is c not) h)
      ]

      all : (c k : ℕ) → c < length new → k < d + 1 → parent_of t k ≡ Some c → Contains (next new c) k
      all c k l m child =
          let long = added-count p d old new is in
          let inside = added-inside p d old new is in
          elim (cases_eq c p) [
            | inl e ↦
                subst (λ (x : ℕ). Contains (next new x) k) (sym e)
                (subst (λ (row : List ℕ). Contains row k) (sym (added-here p d old new is))
                (elim (cases_lt k d) [
                  | inl lower ↦
                      Contains-append_left (next old p) (d ∷ []) k
                      (before.all p k inside lower (subst (λ (x : ℕ). parent_of t k ≡ Some x) e child))
                  | inr past ↦ let same : d ≡ k = omega arith in subst (λ (x : ℕ). Contains (next old p ++ d ∷ []) x) same (Contains-push (next old p) d)
                ]))
            | inr not ↦
                let lower : k < d = elim (cases_lt k d) [
                  | inl lower ↦ lower
                  | inr past ↦
                      let same : k ≡ d = omega arith in
                      absurd (not (same_Some c p (sym (subst (λ (x : ℕ). parent_of t x ≡ Some c) same child) ∙ link)))
                ] in
                subst (λ (row : List ℕ). Contains row k) (sym (added-there p d old new is c not)) (before.all c k (omega (arith, l, long)) lower child)
          ]

  pub subclasses-end : (rows : List (List ℕ)) → AreSubclassesBelow t (length t.records) rows → AreAllSubclasses t rows
  subclasses-end rows below c l = record {
    only = below.only c;
    all = λ d link. let class = parent_of-class t d c link in below.all c d l class.number link;
  }

-- what is no class has no superclass
pub parent-none : (t : ClassTable) (c : ℕ) → ¬ (IsClass t c) → None ≡ parent_of t c
parent-none t c not = by (parent_of t c) refl
  where
    by : (o : Option ℕ) → parent_of t c ≡ o → None ≡ o
    by None e = refl
    by (Some p) e = absurd (not (parent_of-class t c p e))
