-- Elements of lists.
use Rattle.std.proofs.Common.{◌≡◌, ◌⊎◌, inl, inr, ℕ, zero, suc, Some, List, [], ◌∷◌, refl, ap, ◌∙◌, arith, Contains, None, drop, take, ◌++◌}
use Rattle.std.proofs.Common.{◌+◌}
use Rattle.std.specs.Prelude.{slice_get}
use Rattle.std.proofs.lemmas.Option.{slice_get_within, slice_get-get_or, get_or_from_slice_get}
use Rattle.std.proofs.lemmas.List.Elements.{Contains-append_right}

pub Contains-slice_get : {A : Type 0} (xs : List A) (n : ℕ) (x : A) → slice_get xs n ≡ Some x → Contains xs x
Contains-slice_get xs n x h = (n, slice_get_within xs n x h, get_or_from_slice_get xs n x x h)

pub slice_get-Contains : {A : Type 0} (xs : List A) (x : A) → Contains xs x → (n : ℕ) × (slice_get xs n ≡ Some x)
slice_get-Contains xs x c = (c.0, slice_get-get_or xs c.0 x c.1 ∙ ap Some c.2)

pub Contains-first : {A : Type 0} (x : A) (xs : List A) → Contains (x ∷ xs) x
Contains-first x xs = Contains-slice_get (x ∷ xs) 0 x refl

pub Contains-later : {A : Type 0} (y : A) (xs : List A) (x : A) → Contains xs x → Contains (y ∷ xs) x
Contains-later y xs x c = Contains-append_right (y ∷ []) xs x c

pub Contains-either : {A : Type 0} (y : A) (xs : List A) (x : A) → Contains (y ∷ xs) x → (y ≡ x) ⊎ Contains xs x
Contains-either y xs x c = by_number c.0 (slice_get-Contains (y ∷ xs) x c)
  where
    by_number : (n : ℕ) → (k : ℕ) × (slice_get (y ∷ xs) k ≡ Some x) → (y ≡ x) ⊎ Contains xs x
    by_number n (zero, h) = inl (cc)
    by_number n (suc k, h) = inr (Contains-slice_get xs k x h)

pub nothing-in : {A : Type 0} (x : A) → Contains [] x → ⊥
nothing-in x c = absurd (omega (arith, c.1))

-- after the first n elements comes the n-th
pub drop-here : {A : Type 0} (xs : List A) (n : ℕ) (x : A) → slice_get xs n ≡ Some x → drop n xs ≡ x ∷ drop (n + 1) xs
drop-here [] n x h = absurd (cc)
drop-here (y ∷ ys) zero x h = ap (λ (z : _). z ∷ ys) (cc)
drop-here (y ∷ ys) (suc n) x h = let e : suc n + 1 ≡ suc (n + 1) = omega arith in rw e (drop-here ys n x h)

pub drop-past : {A : Type 0} (xs : List A) (n : ℕ) → slice_get xs n ≡ None → drop n xs ≡ []
drop-past [] zero h = refl
drop-past [] (suc n) h = refl
drop-past (y ∷ ys) zero h = absurd (cc)
drop-past (y ∷ ys) (suc n) h = drop-past ys n h

pub next-take : {A : Type 0} (xs : List A) (n : ℕ) (x : A) → slice_get xs n ≡ Some x → take (n + 1) xs ≡ take n xs ++ x ∷ []
next-take [] n x e = absurd cc
next-take (y ∷ ys) zero x e = cc
next-take (y ∷ ys) (suc n) x e =
    let k : suc n + 1 ≡ suc (n + 1) = omega arith in
    rw k (ap (λ zs. y ∷ zs) (next-take ys n x e))
