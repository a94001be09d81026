-- The first of a list and those after them, step by step.
use Rattle.std.proofs.Common.{◌≡◌, ℕ, zero, suc, ◌+◌, ◌-◌, ◌<◌, List, [], ◌∷◌, ◌++◌, Some, map, take, drop, ap, sym, append_assoc}
use Rattle.std.proofs.Common.{arith, ◌∙◌}
use Rattle.std.specs.Prelude.{slice_get}

pub drop_step : {X : Type 0} (a n : ℕ) (x : X) (xs : List X) → a < n → drop (n - a) (x ∷ xs) ≡ drop (n - (a + 1)) xs
drop_step a n x xs lt = let e : n - a ≡ suc (n - (a + 1)) = omega arith in ap (λ k. drop k (x ∷ xs)) e

pub take_step : {X : Type 0} (a n : ℕ) (x : X) (xs : List X) → a < n → take (n - a) (x ∷ xs) ≡ x ∷ take (n - (a + 1)) xs
take_step a n x xs lt = let e : n - a ≡ suc (n - (a + 1)) = omega arith in ap (λ k. take k (x ∷ xs)) e

pub map_step : {X Y : Type 0} (f : X → Y) (ys : List Y) (a n : ℕ) (x : X) (xs : List X) → a < n → ys ++ map f (take (n - a) (x ∷ xs))
    ≡ (ys ++ f x ∷ []) ++ map f (take (n - (a + 1)) xs)
map_step f ys a n x xs lt = ap (λ l. ys ++ map f l) (take_step a n x xs lt) ∙ sym (append_assoc ys (f x ∷ []) (map f (take (n - (a + 1)) xs)))

-- what is left after n begins with the one that has the number n
pub first_left : {X : Type 0} (xs : List X) (n : ℕ) (x : X) (rest : List X) → drop n xs ≡ x ∷ rest → slice_get xs n ≡ Some x
first_left [] zero x rest e = absurd cc
first_left [] (suc n) x rest e = absurd cc
first_left (y ∷ ys) zero x rest e = let s : y ≡ x = cc in ap Some s
first_left (y ∷ ys) (suc n) x rest e = first_left ys n x rest e

pub others_left : {X : Type 0} (xs : List X) (n : ℕ) (x : X) (rest : List X) → drop n xs ≡ x ∷ rest → drop (n + 1) xs ≡ rest
others_left [] zero x rest e = absurd cc
others_left [] (suc n) x rest e = absurd cc
others_left (y ∷ ys) zero x rest e = cc
others_left (y ∷ ys) (suc n) x rest e = let k : suc n + 1 ≡ suc (n + 1) = omega arith in rw k (others_left ys n x rest e)
