-- Elements of a list with the numbers of their methods.
use Rattle.std.proofs.Common.{◌≡◌, ℕ, zero, suc, ◌+◌, List, [], ◌∷◌, ◌++◌, length, drop, Some, IsSomeAnd}
use Rattle.std.proofs.Common.{arith, add-one}
use Rattle.std.specs.Prelude.{slice_get}
use Rattle.std.proofs.Math.ListN.{drop_of_length-le}
use Rattle.jc_decode.proofs.Elements.{drop-here}
use Rattle.xf_last.specs.Last.{EachFrom}

pub each-push : {A : Type 0} (Is : ℕ → A → Type 0) (n : ℕ) (xs : List A) (x : A) → EachFrom Is n xs → Is (n + length xs) x
    → EachFrom Is n (xs ++ x ∷ [])
each-push Is n [] x each is = let same : n + 0 ≡ n = omega arith in (rw same at is, tt {0})
each-push Is n (y ∷ xs) x each is =
    let same : n + suc (length xs) ≡ suc n + length xs = omega arith in
    (each.0, each-push Is (suc n) xs x each.1 (rw same at is))

pub each-at : {A : Type 0} (Is : ℕ → A → Type 0) (n : ℕ) (xs : List A) (k : ℕ) (x : A) → EachFrom Is n xs → slice_get xs k ≡ Some x
    → Is (n + k) x
each-at Is n [] k x each e = absurd cc
each-at Is n (y ∷ xs) zero x each e = grind (arith)
each-at Is n (y ∷ xs) (suc k) x each e = grind (arith, suc, each-at Is (suc n) xs k x each.1 e)

-- what holds of each from a number on, with its element, holds of the two lists
module _ {R A : Type 0} (Is : ℕ → A → R → Type 0) (All : ℕ → List R → List A → Type 0) (none : (n : ℕ) → All n [] [])
    (next : (n : ℕ) (r : R) (rs : List R) (x : A) (xs : List A) → Is n x r → All (suc n) rs xs → All n (r ∷ rs) (x ∷ xs)) (rs : List R) where
  pub all-from : (n : ℕ) (xs : List A) → EachFrom (λ k x. IsSomeAnd (slice_get rs k) (Is k x)) n xs → n + length xs ≡ length rs → All n (drop n rs) xs
  all-from n [] each long = grind (arith, drop, drop_of_length-le)
  all-from n (x ∷ xs) each long = grind (arith, drop-here, drop, add-one, suc, all-from (suc n) xs each.1 (omega (arith, long)))
