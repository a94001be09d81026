-- Where nothing of a list is at fault, nothing is wrong with a thing of it.
use Rattle.std.proofs.Common.{◌≡◌, ℕ, zero, suc, List, [], ◌∷◌, ◌++◌, flat_map, Option, Some, None, sym, ap, subst, ◌∙◌, ◌⊎◌, inl, arith}
use Rattle.std.proofs.Common.{inr}
use Rattle.std.specs.Prelude.{slice_get}
use Rattle.std.specs.List.{filter_map}
use Rattle.std.proofs.lemmas.List.Elements.{filter_map-append}
use Rattle.first_fault.proofs.LeastFaults.{faultless_first}
use Rattle.cap_package.proofs.StaticsKnown.{both_empty}

-- ---- things of lists

abbrev pub IsOneOf : {F : Type 0} → List F → F → Type 0
IsOneOf [] one = ⊥
IsOneOf (other ∷ others) one = (one ≡ other) ⊎ IsOneOf others one

pub one_of_front : {X : Type 0} (xs ys : List X) (x : X) → IsOneOf xs x → IsOneOf (xs ++ ys) x
one_of_front [] ys x h = absurd h
one_of_front (y ∷ xs) ys x (inl e) = inl e
one_of_front (y ∷ xs) ys x (inr h) = inr (one_of_front xs ys x h)

pub one_of_after : {X : Type 0} (xs ys : List X) (x : X) → IsOneOf ys x → IsOneOf (xs ++ ys) x
one_of_after [] ys x h = h
one_of_after (y ∷ xs) ys x h = inr (one_of_after xs ys x h)

pub one_of_flat : {X Y : Type 0} (f : X → List Y) (xs : List X) (x : X) (y : Y) → IsOneOf xs x → IsOneOf (f x) y → IsOneOf (flat_map f xs) y
one_of_flat f [] x y h k = absurd h
one_of_flat f (z ∷ xs) x y (inl e) k = one_of_front (f z) (flat_map f xs) y (subst (λ u. IsOneOf (f u) y) e k)
one_of_flat f (z ∷ xs) x y (inr h) k = one_of_after (f z) (flat_map f xs) y (one_of_flat f xs x y h k)

pub one_of_get : {X : Type 0} (xs : List X) (i : ℕ) (x : X) → slice_get xs i ≡ Some x → IsOneOf xs x
one_of_get [] i x at = absurd cc
one_of_get (y ∷ xs) zero x at = inl cc
one_of_get (y ∷ xs) (suc i) x at = inr (one_of_get xs i x at)

-- ---- nothing is at fault

pub faultless : {X Y : Type 0} (f : X → Option Y) (xs : List X) (x : X) → filter_map f xs ≡ [] → IsOneOf xs x → f x ≡ None
faultless f [] x e h = absurd h
faultless f (y ∷ xs) x e (inl same) = ap f same ∙ (faultless_first (f y) (filter_map f xs) e).0
faultless f (y ∷ xs) x e (inr h) = faultless f xs x (faultless_first (f y) (filter_map f xs) e).1 h

pub faultless_at : {X Y : Type 0} (f : X → Option Y) (xs : List X) (i : ℕ) (x : X) → filter_map f xs ≡ [] → slice_get xs i ≡ Some x → f x ≡ None
faultless_at f xs i x e at = faultless f xs x e (one_of_get xs i x at)

pub both_faultless : {X Y : Type 0} (f : X → Option Y) (xs ys : List X) → filter_map f (xs ++ ys) ≡ [] → (filter_map f xs ≡ [])
    × (filter_map f ys ≡ [])
both_faultless f xs ys e = both_empty (filter_map f xs) (filter_map f ys) (sym (filter_map-append f xs ys) ∙ e)

-- the things that belong to one of several things
pub flat_faultless : {X Y Z : Type 0} (f : Y → Option Z) (g : X → List Y) (xs : List X) (i : ℕ) (x : X) → filter_map f (flat_map g xs) ≡ []
    → slice_get xs i ≡ Some x → filter_map f (g x) ≡ []
flat_faultless f g [] i x e at = absurd cc
flat_faultless f g (y ∷ ys) zero x e at = grind (arith, both_faultless, flat_map)
flat_faultless f g (y ∷ ys) (suc i) x e at = flat_faultless f g ys i x (both_faultless f (g y) (flat_map g ys) e).1 at
