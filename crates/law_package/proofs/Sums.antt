-- Sums over the elements that pass a test.
use Rattle.std.proofs.Common.{◌≡◌, ◌≤◌, ◌+◌, ℕ, List, [], ◌∷◌, filter, sum_by, Bool, true, false, cond, inl, inr, refl, sym, ap, subst}
use Rattle.std.proofs.Common.{◌∙◌, arith}
use Rattle.std.proofs.lemmas.List.Sums.{sum_by-cons}
use Rattle.std.proofs.lemmas.Bool.{false≢true}
use Rattle.law_package.proofs.Lists.{Each, Has, filter_none}

-- ---- more that pass have a greater sum

le_by : {X : Type 0} (size : X → ℕ) (x : X) (b c : Bool) (ps qs : List X) → (b ≡ true → c ≡ true) → sum_by size ps ≤ sum_by size qs
    → sum_by size (cond b (x ∷ ps) ps) ≤ sum_by size (cond c (x ∷ qs) qs)
le_by size x z u ps qs i h = grind (arith, sum_by-cons, false≢true)

pub sum_le : {X : Type 0} (size : X → ℕ) (p q : X → Bool) (xs : List X) → ((x : X) → p x ≡ true → q x ≡ true)
    → sum_by size (filter p xs) ≤ sum_by size (filter q xs)
sum_le size p q [] i = omega arith
sum_le size p q (x ∷ xs) i = le_by size x (p x) (q x) (filter p xs) (filter q xs) (i x) (sum_le size p q xs i)

more_by : {X : Type 0} (size : X → ℕ) (x : X) (n : ℕ) (b c : Bool) (ps qs : List X) → (b ≡ true → c ≡ true)
    → sum_by size ps + n ≤ sum_by size qs → sum_by size (cond b (x ∷ ps) ps) + n ≤ sum_by size (cond c (x ∷ qs) qs)
more_by size x n u v ps qs i h = grind (arith, sum_by-cons, false≢true)

one_more : {X : Type 0} (size : X → ℕ) (x : X) (b c : Bool) (ps qs : List X) → b ≡ false → c ≡ true → sum_by size ps ≤ sum_by size qs
    → sum_by size (cond b (x ∷ ps) ps) + size x ≤ sum_by size (cond c (x ∷ qs) qs)
one_more size x z c ps qs e f h = grind (arith, false≢true, sum_by-cons)

-- by one that passes now
pub sum_more : {X : Type 0} (size : X → ℕ) (p q : X → Bool) (xs : List X) (a : X) → ((x : X) → p x ≡ true → q x ≡ true) → p a ≡ false
    → q a ≡ true → Has xs a → sum_by size (filter p xs) + size a ≤ sum_by size (filter q xs)
sum_more size p q [] a i e f h = absurd h
sum_more size p q (x ∷ xs) a i e f (inl s) =
    subst (λ y. sum_by size (filter p (x ∷ xs)) + size y ≤ sum_by size (filter q (x ∷ xs))) (sym s)
    (one_more size x (p x) (q x) (filter p xs) (filter q xs) (ap p (sym s) ∙ e) (ap q (sym s) ∙ f) (sum_le size p q xs i))
sum_more size p q (x ∷ xs) a i e f (inr h) = more_by size x (size a) (p x) (q x) (filter p xs) (filter q xs) (i x) (sum_more size p q xs a i e f h)

pub filter_every : {X : Type 0} (xs : List X) → filter (λ x. true) xs ≡ xs
filter_every [] = refl
filter_every (x ∷ xs) = ap (λ ys. x ∷ ys) (filter_every xs)

-- one that does not pass is beside those that do
pub sum_beside : {X : Type 0} (size : X → ℕ) (p : X → Bool) (xs : List X) (a : X) → p a ≡ false → Has xs a
    → sum_by size (filter p xs) + size a ≤ sum_by size xs
sum_beside size p xs a e h = grind (arith, filter p xs, filter_every xs, sum_by, sum_more)

pub sum_each : {X : Type 0} (size : X → ℕ) (xs : List X) (a : X) → Has xs a → size a ≤ sum_by size xs
sum_each size [] a h = absurd h
sum_each size (x ∷ xs) a (inl s) = let b = sum_by-cons size x xs in let e = ap size s in omega arith
sum_each size (x ∷ xs) a (inr h) = let b = sum_by-cons size x xs in let r = sum_each size xs a h in omega arith

pub sum_none : {X : Type 0} (size : X → ℕ) (p : X → Bool) (xs : List X) → Each (λ x. p x ≡ false) xs → sum_by size (filter p xs) ≡ 0
sum_none size p xs h = ap (sum_by size) (filter_none p xs h)
