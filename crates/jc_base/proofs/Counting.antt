-- Where one test passes what another does, and one element more, it counts more elements.
use Rattle.std.proofs.Common.{◌≡◌, ℕ, ◌+◌, ◌<◌, ◌≤◌, inl, inr, Bool, true, false, cond, List, [], ◌∷◌, ap, ◌∙◌, arith}
use Rattle.std.specs.Prelude.{Contains, count_by}
use Rattle.std.specs.List.{range_with_len}
use Rattle.std.proofs.lemmas.List.Sums.{sum_by-cons, count_by-le-length}
use Rattle.std.proofs.lemmas.List.Elements.{Contains-append_cases, Contains-push_cases}
use Rattle.std.proofs.lemmas.List.FromFn.{length-range_with_len, get_or-range_with_len}

count-cons : (p : ℕ → Bool) (x : ℕ) (xs : List ℕ) → count_by p (x ∷ xs) ≡ cond (p x) 1 0 + count_by p xs
count-cons p x xs = sum_by-cons (λ y. cond (p y) 1 0) x xs

one-le : (b d : Bool) → (b ≡ true → d ≡ true) → cond {A = ℕ} b 1 0 ≤ cond {A = ℕ} d 1 0
one-le x d h = grind (arith)

count-le : (p q : ℕ → Bool) (xs : List ℕ) → ((x : ℕ) → p x ≡ true → q x ≡ true) → count_by p xs ≤ count_by q xs
count-le p q [] h = omega arith
count-le p q (x ∷ xs) h = omega (arith, count-cons p x xs, count-cons q x xs, one-le (p x) (q x) (h x), count-le p q xs h)

pub count-less : (p q : ℕ → Bool) (xs : List ℕ) (y : ℕ) → ((x : ℕ) → p x ≡ true → q x ≡ true) → Contains xs y → p y ≡ false
    → q y ≡ true → count_by p xs < count_by q xs
count-less p q [] y h at lacks has = absurd (omega (arith, at.1))
count-less p q (x ∷ xs) y h at lacks has = elim (Contains-append_cases (x ∷ []) xs y at) [
  | inl here ↦ elim (Contains-push_cases [] x y here) [
    | inl none ↦ absurd (omega (arith, none.1))
    | inr e ↦
        let not_p : cond {A = ℕ} (p x) 1 0 ≡ 0 = ap (λ (b : Bool). cond {A = ℕ} b 1 0) (ap p e ∙ lacks) in
        let is_q : cond {A = ℕ} (q x) 1 0 ≡ 1 = ap (λ (b : Bool). cond {A = ℕ} b 1 0) (ap q e ∙ has) in
        omega (arith, count-cons p x xs, count-cons q x xs, not_p, is_q, count-le p q xs h)
  ]
  | inr more ↦ omega (arith, count-cons p x xs, count-cons q x xs, one-le (p x) (q x) (h x), count-less p q xs y h more lacks has)
]

pub number-among : (n c : ℕ) → c < n → Contains (range_with_len 0 n) c
number-among n c h = grind (arith, length-range_with_len 0 n, get_or-range_with_len 0 n c c h)

pub count-most : (p : ℕ → Bool) (n : ℕ) → count_by p (range_with_len 0 n) ≤ n
count-most p n = omega (arith, count_by-le-length p (range_with_len 0 n), length-range_with_len 0 n)
