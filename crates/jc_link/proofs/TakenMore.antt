-- A step over a list from one place to the next.
use Rattle.std.proofs.Common.{◌≡◌, ℕ, zero, suc, ◌+◌, List, [], ◌∷◌, take, Some, arith}
use Rattle.std.specs.Prelude.{All, slice_get}
use Rattle.std.proofs.lemmas.List.Elements.{All-cons, All-head, All-tail}

pub taken_more : {A : Type 0} (P : A → Type 0) (xs : List A) (n : ℕ) (x : A) → slice_get xs n ≡ Some x → All P (take n xs) → P x
    → All P (take (n + 1) xs)
taken_more P [] n x e all new = absurd cc
taken_more P (y ∷ ys) zero x e all new = grind (arith)
taken_more P (y ∷ ys) (suc n) x e all new =
    let k : suc n + 1 ≡ suc (n + 1) = omega arith in
    rw k (All-cons P y (take (n + 1) ys) (All-head P y (take n ys) all) (taken_more P ys n x e (All-tail P y (take n ys) all) new))
