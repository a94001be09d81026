-- Lists that are gone over by the number of the elements that were given.
use Rattle.std.proofs.Common.{◌≡◌, ◌+◌, ℕ, zero, suc, Some, None, List, [], ◌∷◌, drop, refl, ap, arith}
use Rattle.std.specs.Prelude.{slice_get}

-- after the first n elements comes the n-th
pub drop_here : {A : Type 0} (xs : List A) (n : ℕ) (x : A) → slice_get xs n ≡ Some x → drop n xs ≡ x ∷ drop (n + 1) xs
drop_here [] n x h = absurd (cc)
drop_here (y ∷ ys) zero x h = ap (λ (z : _). z ∷ ys) (cc)
drop_here (y ∷ ys) (suc n) x h = let e : suc n + 1 ≡ suc (n + 1) = omega arith in rw e (drop_here ys n x h)

pub drop_past : {A : Type 0} (xs : List A) (n : ℕ) → slice_get xs n ≡ None → drop n xs ≡ []
drop_past [] zero h = refl
drop_past [] (suc n) h = refl
drop_past (y ∷ ys) zero h = absurd (cc)
drop_past (y ∷ ys) (suc n) h = drop_past ys n h

pub ruleset giving = (drop_here, drop_past)
