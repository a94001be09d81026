-- Elements of parts of a list.
use Rattle.std.proofs.Common.{◌≡◌, ◌<◌, ℕ, zero, suc, List, [], ◌∷◌, take, Some, slice_get, arith}

-- what is found among the first elements stands at a place below their number
pub taken_below : {X : Type 0} (n j : ℕ) (xs : List X) (x : X) → slice_get (take n xs) j ≡ Some x → j < n
taken_below zero j xs x e = absurd cc
taken_below (suc n) j [] x e = absurd cc
taken_below (suc n) zero (y ∷ ys) x e = omega arith
taken_below (suc n) (suc j) (y ∷ ys) x e = let lt = taken_below n j ys x e in omega (arith, lt)
