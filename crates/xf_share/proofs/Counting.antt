-- Sums over the methods so far.
use Rattle.std.proofs.Common.{◌≡◌, ℕ, ◌+◌, ◌≤◌, List, length, take, Option, Some, None, option_map, slice_get, refl, ap, ◌∙◌, arith}
use Rattle.std.specs.Prelude.{sum_by}
use Rattle.std.proofs.lemmas.List.{take_all}
use Rattle.std.proofs.lemmas.List.Sums.{sum_by_more}
use Rattle.std.proofs.lemmas.Option.{get_or_from_slice_get, slice_get_within}

pub one-more : {A : Type 0} (f : A → ℕ) (xs : List A) (n sum one : ℕ) → option_map f (slice_get xs n) ≡ Some one → sum ≡ sum_by f (take n xs)
    → sum + one ≡ sum_by f (take (n + 1) xs)
one-more {A = A} f xs n sum one e before = by (slice_get xs n) refl e
  where
    by : (o : Option A) → slice_get xs n ≡ o → option_map f o ≡ Some one → sum + one ≡ sum_by f (take (n + 1) xs)
    by None at e = absurd cc
    by (Some x) at e =
        let is : f x ≡ one = cc in
        let step = sum_by_more f xs n x (slice_get_within xs n x at) in
        let here = ap f (get_or_from_slice_get xs n x x at) in
        omega (arith, step, here, is, before)

pub all-summed : {A : Type 0} (f : A → ℕ) (xs : List A) (n sum : ℕ) → length xs ≤ n → sum ≡ sum_by f (take n xs) → sum ≡ sum_by f xs
all-summed f xs n sum past sums = sums ∙ ap (sum_by f) (take_all n xs past)
