-- A search by halving in an ascending list.
use Rattle.std.proofs.Common.{◌≡◌, ℕ, zero, suc, ◌+◌, ◌-◌, ◌*◌, ◌/◌, ◌^◌, ◌<◌, ◌≤◌, ⊎_elim, List}
use Rattle.std.proofs.Common.{length, get_or, Option, Some, None, Contains, slice_get, sym, ap, ◌∙◌, arith}
use Rattle.std.proofs.Math.Nat.{mul_assoc, suc-mul, pow-succ'}
use Rattle.std.proofs.Math.Pow.{pow_mono}
use Rattle.std.proofs.lemmas.Bool.{cases_lt}
use Rattle.std.proofs.lemmas.Option.{slice_get_within, slice_get-get_or, get_or_from_slice_get, same_Some}
use Rattle.jc_base.specs.Index.{IsAscending}
use Rattle.card_verify.specs.Ahead.{IsLeastFrom}
use Rattle.card_verify.proofs.Costs.{grow}

-- ---- ascending lists

pub ascending-far : (index : List ℕ) → IsAscending index → (k j p q : ℕ) → k < j → slice_get index k ≡ Some p → slice_get index j ≡ Some q
    → p < q
ascending-far index up k zero p q lt at there = absurd (omega (arith, lt))
ascending-far index up k (suc j) p q lt at there =
    let step : j + 1 ≡ suc j = omega arith in
    let inside : j < length index = omega (arith, slice_get_within index (suc j) q there) in
    let before : slice_get index j ≡ Some (get_or index j 0) = slice_get-get_or index j 0 inside in
    let next : get_or index j 0 < q = up j (get_or index j 0) q before (ap (slice_get index) step ∙ there) in
    ⊎_elim (λ less. let far = ascending-far index up k j p (get_or index j 0) less at before in omega (arith, far, next))
    (λ le.
    let same : k ≡ j = omega (arith, le, lt) in
    let own : p ≡ get_or index j 0 = same_Some p (get_or index j 0) (sym at ∙ ap (slice_get index) same ∙ before) in
    omega (arith, own, next)) (cases_lt k j)

-- ---- what is known between the halves

-- after some steps: where the place is not, if it is anywhere, and how many entries are left to look at
pub record IsNarrowed (index : List ℕ) (place low high taken : ℕ) : Type 0 where
  pub order : low ≤ high
  pub inside : high ≤ length index
  pub below : (k q : ℕ) → k < low → slice_get index k ≡ Some q → q < place
  pub above : (k q : ℕ) → high ≤ k → slice_get index k ≡ Some q → place < q
  pub fewer : (high - low) * 2 ^ taken ≤ length index
  pub seldom : (b : ℕ) → length index < 2 ^ b → taken ≤ b

-- with n entries left and t steps taken, one more step keeps to the number of digits
digit : (n t len b : ℕ) → 0 < n → n * 2 ^ t ≤ len → len < 2 ^ b → t + 1 ≤ b
digit n t len b some le lt = ⊎_elim (λ less. omega (arith, less)) (λ ge. absurd (too-many ge)) (cases_lt t b)
  where
    one : (k p : ℕ) → 0 < k → p ≤ k * p
    one zero p pos = absurd (omega (arith, pos))
    one (suc k) p pos = omega (arith, suc-mul k p)

    too-many : b ≤ t → ⊥
    too-many ge = grind (arith, pow_mono)

-- a half of what is left
halves : (n h t len : ℕ) → h * 2 ≤ n → n * 2 ^ t ≤ len → h * 2 ^ (t + 1) ≤ len
halves n h t len half le = rw (double t) (rw (← mul_assoc h 2 (2 ^ t)) (omega (arith, grow (h * 2) n (2 ^ t) half, le)))
  where
    double : (k : ℕ) → 2 ^ (k + 1) ≡ 2 * 2 ^ k
    double k = let next : k + 1 ≡ suc k = omega arith in ap (λ n. 2 ^ n) next ∙ pow-succ' 2 k

module _ (index : List ℕ) (up : IsAscending index) (place low high taken middle found : ℕ) (so_far : IsNarrowed index place low high taken)
    (some : low < high)
    (half : middle ≡ low + (high - low) / 2) (at : slice_get index middle ≡ Some found) where
  seldom-next : (b : ℕ) → length index < 2 ^ b → taken + 1 ≤ b
  seldom-next b lt = digit (high - low) taken (length index) b (omega (arith, some)) so_far.fewer lt

  pub narrowed-up : found < place → IsNarrowed index place (middle + 1) high (taken + 1)
  narrowed-up less = record {
    order = omega (arith, some, half);
    inside = so_far.inside;
    below = λ k q lt here. ⊎_elim (λ earlier. let far = ascending-far index up k middle q found earlier here at in omega (arith, far, less)) (λ ge.
        let same : k ≡ middle = omega (arith, lt, ge) in
        let own : q ≡ found = same_Some q found (sym here ∙ ap (slice_get index) same ∙ at) in
        omega (arith, own, less)) (cases_lt k middle);
    above = so_far.above;
    fewer = halves (high - low) (high - (middle + 1)) taken (length index) (omega (arith, some, half)) so_far.fewer;
    seldom = seldom-next;
  }

  pub narrowed-down : place < found → IsNarrowed index place low middle (taken + 1)
  narrowed-down more = record {
    order = omega (arith, some, half);
    inside = omega (arith, slice_get_within index middle found at);
    below = so_far.below;
    above =
        λ k q le here. ⊎_elim (λ earlier. absurd (omega (arith, earlier, le)))
        (λ ge. ⊎_elim (λ later. let far = ascending-far index up middle k found q later at here in omega (arith, far, more)) (λ no.
        let same : k ≡ middle = omega (arith, le, no) in
        let own : q ≡ found = same_Some q found (sym here ∙ ap (slice_get index) same ∙ at) in
        omega (arith, own, more)) (cases_lt middle k)) (cases_lt k middle);
    fewer = halves (high - low) (middle - low) taken (length index) (omega (arith, some, half)) so_far.fewer;
    seldom = seldom-next;
  }

-- ---- the least place that is not below

pub found-least : (index : List ℕ) → IsAscending index → (middle found place : ℕ) → slice_get index middle ≡ Some found → found ≡ place
    → IsLeastFrom (Contains index) place (Some found)
found-least index up middle found place at same = (
  (middle, slice_get_within index middle found at, get_or_from_slice_get index middle found found at),
  omega (arith, same),
  λ q c le. omega (arith, same, le),
)

pub narrowed-least : (index : List ℕ) → IsAscending index → (place low high taken : ℕ) (best : Option ℕ) → IsNarrowed index place low high taken
    → high ≤ low → slice_get index high ≡ best → IsLeastFrom (Contains index) place best
narrowed-least index up place low high taken None so_far over e = λ q c.
    let there : slice_get index c.0 ≡ Some q = slice_get-get_or index c.0 q c.1 ∙ ap Some c.2 in
    ⊎_elim (λ lt. so_far.below c.0 q lt there) (λ ge. absurd (past c.0 q there (omega (arith, ge, over)))) (cases_lt c.0 low)
  where
    past : (k q : ℕ) → slice_get index k ≡ Some q → high ≤ k → ⊥
    past k q there le =
        let inside : high < length index = omega (arith, slice_get_within index k q there, le) in
        let no : Some (get_or index high 0) ≡ None = sym (slice_get-get_or index high 0 inside) ∙ e in
        absurd (cc)
narrowed-least index up place low high taken (Some b) so_far over e = (
  (high, slice_get_within index high b e, get_or_from_slice_get index high b b e),
  let more = so_far.above high b (omega arith) e in omega (arith, more),
  λ q c le.
      let there : slice_get index c.0 ≡ Some q = slice_get-get_or index c.0 q c.1 ∙ ap Some c.2 in
      ⊎_elim (λ lt. let less = so_far.below c.0 q (omega (arith, lt, over, so_far.order)) there in absurd (omega (arith, less, le))) (λ ge.
      ⊎_elim (λ later. let far = ascending-far index up high c.0 b q later e there in omega (arith, far)) (λ no.
      let same : high ≡ c.0 = omega (arith, ge, no) in
      let own : b ≡ q = same_Some b q (sym e ∙ ap (slice_get index) same ∙ there) in
      omega (arith, own)) (cases_lt high c.0)) (cases_lt c.0 high),
)

-- what is not below and not equal is above
pub above-from : (a b c : ℕ) → a ≡ c → ¬ (a ≡ b) → b ≤ a → b < c
above-from a b c same other le = ⊎_elim (λ lt. omega (arith, lt, same)) (λ ge. absurd (other (omega (arith, ge, le)))) (cases_lt b a)
