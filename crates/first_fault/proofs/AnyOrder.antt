-- The least fault of things is the same in whatever order they are looked at, where faults at one place are the same.
use Rattle.std.proofs.Common.{◌≡◌, List, [], ◌∷◌, Option, Some, None, Bool, true, false, refl, arith}
use Rattle.first_fault.specs.declared.place.Place.{Place}
use Rattle.first_fault.specs.Order.{IsBefore, IsUpTo, comes_before}
use Rattle.first_fault.specs.Least.{lesser, least_from}
use Rattle.first_fault.proofs.Places.{before-true, before-false, before-then, up_to-before, before-up_to}

-- a place is not before itself
never_before : (a : Place) → IsBefore a a → ⊥
never_before a x = grind (arith)

same_place : (a b : Place) → IsUpTo a b → IsUpTo b a → a ≡ b
same_place a b x x2 = grind (arith)

module _ {F : Type 0} (place : F → Place) where
  -- faults of things that stand at one place are the same
  abbrev pub AreExact : {X : Type 0} → (X → Option F) → Type 0
  AreExact {X} fault = (x y : X) (f g : F) → fault x ≡ Some f → fault y ≡ Some g → place f ≡ place g → f ≡ g

  pair_by : (f g : F) (b c : Bool) → comes_before (place g) (place f) ≡ b → comes_before (place f) (place g) ≡ c
      → (place f ≡ place g → f ≡ g) → lesser place (Some f) (Some g) ≡ lesser place (Some g) (Some f)
  unfolding lesser
  pair_by f g x x2 p q same = grind (arith, never_before, up_to-before, before-up_to, before-true, same_place, before-false)

  pair : (f g : F) → (place f ≡ place g → f ≡ g) → lesser place (Some f) (Some g) ≡ lesser place (Some g) (Some f)
  pair f g same = pair_by f g (comes_before (place g) (place f)) (comes_before (place f) (place g)) refl refl same

  -- what is not before a fault is not before one that is before that
  stays : (f g h : F) → comes_before (place f) (place h) ≡ true → comes_before (place g) (place h) ≡ false → (b : Bool)
      → comes_before (place g) (place f) ≡ b → comes_before (place g) (place f) ≡ false
  stays f g h p q x e = grind (arith, before-true, up_to-before, before-up_to, never_before, before-then, before-false)

  three_by : (h f g : F) (b c : Bool) → comes_before (place f) (place h) ≡ b → comes_before (place g) (place h) ≡ c
      → (place f ≡ place g → f ≡ g) → lesser place (lesser place (Some h) (Some f)) (Some g) ≡ lesser place (lesser place (Some h) (Some g))
      (Some f)
  unfolding lesser
  three_by h f g true true p q same = rw (p, q) (pair f g same)
  three_by h f g true false p q same = grind (arith, stays)
  three_by h f g false true p q same = grind (arith, stays)
  three_by h f g false false p q same = rw (p, q, p) refl

  -- of two things it does not matter which is looked at first
  two-turned : (before o p : Option F) → ((f g : F) → o ≡ Some f → p ≡ Some g → place f ≡ place g → f ≡ g)
      → lesser place (lesser place before o) p ≡ lesser place (lesser place before p) o
  unfolding lesser
  two-turned before None p same = refl
  two-turned before (Some f) None same = refl
  two-turned None (Some f) (Some g) same = pair f g (λ e. same f g refl refl e)
  two-turned (Some h) (Some f) (Some g) same = grind (arith, three_by)

  module _ {X : Type 0} (fault : X → Option F) (exact : AreExact fault) where
    one-turned : (x : X) (xs : List X) (before : Option F) → lesser place (least_from place before fault xs) (fault x) ≡ least_from place
        (lesser place before (fault x)) fault xs
    one-turned x [] before = refl
    one-turned x (y ∷ ys) before = grind (arith, two-turned, one-turned x ys (lesser place before (fault y)))

    -- of two lists of things it does not matter which is gone through first
    pub least-turned : (xs ys : List X) (before : Option F) → least_from place (least_from place before fault xs) fault ys ≡ least_from place
        (least_from place before fault ys) fault xs
    least-turned xs [] before = refl
    least-turned xs (y ∷ ys) before = grind (arith, one-turned, least-turned xs ys (lesser place before (fault y)))
