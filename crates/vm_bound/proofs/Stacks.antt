-- Lists whose last element is the greatest.
use Rattle.std.proofs.Common.{◌≡◌, ℕ, ◌+◌, ◌-◌, ◌<◌, ◌≤◌, inl, inr, List, [], ◌∷◌, ◌++◌, length, get_or, refl, sym, ◌∙◌, subst, arith}
use Rattle.std.specs.Prelude.{All, Contains}
use Rattle.std.specs.List.Sorted.{IsNonDecreasing}
use Rattle.std.proofs.lemmas.Bool.{cases_lt}
use Rattle.std.proofs.lemmas.Grind.{get_or_default_zero}
use Rattle.std.proofs.lemmas.List.{length-append, get_or_append_left, get_or_push}
use Rattle.std.proofs.lemmas.List.Elements.{All-contains, Contains-get_or, Contains-push}
use Rattle.std.proofs.lemmas.List.Sorted.{IsNonDecreasingBy-push}
use Rattle.vm_bound.specs.Runs.{AreRising}

-- a number stands at a place
pub place-of : (xs : List ℕ) (p : ℕ) (c : Contains xs p) → get_or xs c.0 0 ≡ p
place-of xs p c = sym (get_or_default_zero xs c.0 p c.1) ∙ c.2

module _ (xs : List ℕ) (x : ℕ) where
  long : length (xs ++ x ∷ []) ≡ length xs + 1
  long = length-append xs (x ∷ [])

  last-is : get_or (xs ++ x ∷ []) (length xs) 0 ≡ x
  last-is = get_or_push xs x 0 (length xs) refl

  front-is : (i : ℕ) → i < length xs → get_or (xs ++ x ∷ []) i 0 ≡ get_or xs i 0
  front-is i l = get_or_append_left xs (x ∷ []) 0 i l

  -- ---- where none is less than an earlier one

  pub last-most : (p : ℕ) → IsNonDecreasing (xs ++ x ∷ []) → Contains (xs ++ x ∷ []) p → p ≤ x
  last-most p rising c = grind (arith, long, place-of (xs ++ x ∷ []) p c, last-is)

  pub front-rising : IsNonDecreasing (xs ++ x ∷ []) → IsNonDecreasing xs
  front-rising rising i j d i≤j inside = grind (arith, long, get_or_append_left)

  pub pushed-rising : IsNonDecreasing xs → ((p : ℕ) → Contains xs p → p ≤ x) → IsNonDecreasing (xs ++ x ∷ [])
  pushed-rising rising most =
      IsNonDecreasingBy-push (λ y. y) xs x rising
      (λ d l. most (get_or xs (length xs - 1) d) (Contains-get_or xs (length xs - 1) d (omega (arith, l))))

  -- ---- where each is less than the later ones

  pub last-greatest : (p : ℕ) → AreRising (xs ++ x ∷ []) → Contains xs p → p < x
  last-greatest p rising c =
      let e = long in
      let l = c.1 in
      let less = rising c.0 (length xs) l (omega (arith, e)) in
      omega (arith, less, front-is c.0 l, place-of xs p c, last-is)

  pub front-rises : AreRising (xs ++ x ∷ []) → AreRising xs
  front-rises rising i j less inside = grind (arith, long, front-is i (omega (arith, less, inside)), front-is j inside)

  pub pushed-rises : AreRising xs → ((p : ℕ) → Contains xs p → p < x) → AreRising (xs ++ x ∷ [])
  pushed-rises rising below i j less inside =
      let e = long in
      let lower : i < length xs = omega (arith, less, inside, e) in
      elim (cases_lt j (length xs)) [
        | inl front ↦ let was = rising i j less front in omega (arith, was, front-is i lower, front-is j front)
        | inr past ↦
            let is = below (get_or xs i 0) (Contains-get_or xs i 0 lower) in
            omega (arith, is, front-is i lower, get_or_push xs x 0 j (omega (arith, past, inside, e)))
      ]

-- what holds of each element holds of the last one, and of each of the others
module _ {A : Type 0} (P : A → Type 0) (xs rest : List A) (x : A) (e : xs ≡ rest ++ x ∷ []) (all : All P xs) where
  pub last-all : P x
  last-all = All-contains P (rest ++ x ∷ []) x (subst (All P) e all) (Contains-push rest x)

  pub front-all : All P rest
  front-all k d l = grind (arith, long, length-append, get_or_append_left)
