-- The first of the elements that stand from a place on, before another.
use Rattle.std.proofs.Common.{◌≡◌, ℕ, zero, suc, ◌+◌, List, [], ◌∷◌, take, drop, refl, ap, ◌∙◌, arith}
use Rattle.std.specs.Prelude.{min}
use Rattle.std.proofs.lemmas.List.{drop-take}

take-take : {X : Type 0} → (xs : List X) (a b m : ℕ) → m ≡ min b a → take m xs ≡ take a (take b xs)
take-take xs zero b m is = let none : m ≡ 0 = omega (arith, is) in rw none refl
take-take xs (suc a) zero m is = let none : m ≡ 0 = omega (arith, is) in rw none refl
take-take [] (suc a) (suc b) zero is = refl
take-take [] (suc a) (suc b) (suc m) is = refl
take-take (x ∷ xs) (suc a) (suc b) zero is = absurd (omega (arith, is))
take-take (x ∷ xs) (suc a) (suc b) (suc m) is = ap (λ ys. x ∷ ys) (take-take xs a b m (omega (arith, is)))

pub first_of_range : {X : Type 0} → (xs : List X) (from to count least : ℕ) → least ≡ min to (from + count)
    → drop from (take least xs) ≡ take count (drop from (take to xs))
first_of_range xs from to count least is = ap (λ ys. drop from ys) (take-take xs (from + count) to least is) ∙ drop-take from count (take to xs)
