-- Lists of numbers that rise, in which no number stands twice.
use Rattle.std.proofs.Common.{◌≡◌, ℕ, suc, ◌+◌, ◌<◌, ◌≤◌, true, false, inl, inr, List, [], ◌∷◌, ◌++◌, refl, sym, ◌∙◌, ap}
use Rattle.std.proofs.Common.{arith}
use Rattle.std.specs.Prelude.{count_by, cond, ◌==◌}
use Rattle.std.proofs.lemmas.List.Sums.{sum_by-cons}
use Rattle.std.proofs.lemmas.Bool.Decides.{nat_tests}
use Rattle.std.proofs.lemmas.Bool.{ne_eqb, eq-eqb}
use Rattle.jc_base.specs.Each.{IsAmong}

-- each is at least the number before it and one, the first at least low, and all are below high
abbrev pub Rises : ℕ → ℕ → List ℕ → Type 0
Rises low high [] = low ≤ high
Rises low high (x ∷ xs) = (low ≤ x) × (x < high) × Rises (suc x) high xs

pub rises-wider : (low from high : ℕ) (xs : List ℕ) → low ≤ from → Rises from high xs → Rises low high xs
rises-wider low from high [] le r = omega arith
rises-wider low from high (x ∷ xs) le r = (omega (arith, r.0), r.1, r.2)

pub rises-append : (low mid high : ℕ) (xs ys : List ℕ) → Rises low mid xs → Rises mid high ys → Rises low high (xs ++ ys)
rises-append low mid high [] ys r s = rises-wider low mid high ys r s
rises-append low mid high (x ∷ xs) ys r s = (r.0, below mid high ys (omega (arith, r.1)) s, rises-append (suc x) mid high xs ys r.2 s)
  where
    below : (mid high : ℕ) (ys : List ℕ) → x < mid → Rises mid high ys → x < high
    below mid high [] lt s = omega arith
    below mid high (y ∷ ys) lt s = omega (arith, s.0, s.1)

-- a number below all does not occur
pub count-below : (low high l : ℕ) (xs : List ℕ) → l < low → Rises low high xs → count_by (λ m. m == l) xs ≡ 0
count-below low high l [] lt r = refl
count-below low high l (x ∷ xs) lt r = grind (arith, ne_eqb, sum_by-cons, suc, count-below (suc x) high l xs (omega (arith, r.0)) r.2)

-- one that stands among them occurs once
pub count-among : (low high l : ℕ) (xs : List ℕ) → Rises low high xs → IsAmong l xs → count_by (λ m. m == l) xs ≡ 1
count-among low high l [] r a = absurd a
count-among low high l (x ∷ xs) r (inl e) =
    let yes : (x == l) ≡ true = ap (λ k. x == k) (sym e) ∙ eq-eqb x x refl in
    sum_by-cons (λ m. cond (m == l) 1 0) x xs ∙ ap (λ b. cond b 1 0 + count_by (λ m. m == l) xs) yes
    ∙ omega (arith, count-below (suc x) high l xs (omega (arith, e)) r.2)
count-among low high l (x ∷ xs) r (inr a) =
    let above : x < l = among-above (suc x) high l xs r.2 a in
    let no : (x == l) ≡ false = same-below x l above in
    sum_by-cons (λ m. cond (m == l) 1 0) x xs ∙ ap (λ b. cond b 1 0 + count_by (λ m. m == l) xs) no ∙ omega (arith, count-among (suc x) high l xs r.2 a)
  where
    among-above : (low high l : ℕ) (xs : List ℕ) → Rises low high xs → IsAmong l xs → low ≤ l
    among-above low high l [] r a = absurd a
    among-above low high l (y ∷ ys) r (inl e) = omega (arith, r.0, e)
    among-above low high l (y ∷ ys) r (inr a) = omega (arith, r.0, among-above (suc y) high l ys r.2 a)

    same-below : (x l : ℕ) → x < l → (x == l) ≡ false
    same-below x l lt = grind (arith, nat_tests)

pub rises-below : (low mid high : ℕ) (xs : List ℕ) → mid ≤ high → Rises low mid xs → Rises low high xs
rises-below low mid high [] le r = omega arith
rises-below low mid high (x ∷ xs) le r = (r.0, omega (arith, r.1), rises-below (suc x) mid high xs le r.2)
