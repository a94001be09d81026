-- Sums and products in which steps are counted.
use Rattle.std.proofs.Common.{◌≡◌, ℕ, zero, suc, ◌+◌, ◌*◌, ◌<◌, ◌≤◌, List, [], ◌∷◌, ◌++◌, length, sum_by, Result}
use Rattle.std.proofs.Common.{OnOk, ap, ◌∙◌, arith}
use Rattle.std.proofs.Math.Nat.{mul_assoc, mul-suc, suc-mul}
use Rattle.std.proofs.lemmas.List.{length-append}
use Rattle.std.proofs.lemmas.List.Sums.{sum_by-append, sum_by-cons}
use Rattle.jc_base.specs.declared.ty.Ty.{Ty}
use Rattle.jc_base.specs.Class.{ClassTable, height}
use Rattle.jc_base.specs.Order.{rises_left}

pub add-times : (a c b : ℕ) → (a + c) * b ≡ a * b + c * b
add-times zero c b = grind (arith, zero)
add-times (suc a) c b = grind (arith, suc, suc-mul, add-times a c b)

pub times-add : (p a c : ℕ) → p * (a + c) ≡ p * a + p * c
times-add zero a c = omega arith
times-add (suc p) a c = omega (arith, suc-mul p (a + c), suc-mul p a, suc-mul p c, times-add p a c)

-- a greater number of times
pub grow : (a b p : ℕ) → a ≤ b → a * p ≤ b * p
grow zero b p le = omega arith
grow (suc a) zero p le = absurd (omega (arith, le))
grow (suc a) (suc b) p le = omega (arith, suc-mul a p, suc-mul b p, grow a b p (omega (arith, le)))

module _ {A : Type 0} where
  pub one-more-cost : (xs : List A) (x : A) (u : ℕ) → length (xs ++ x ∷ []) * u ≡ length xs * u + u
  one-more-cost xs x u =
      let more : length (xs ++ x ∷ []) ≡ suc (length xs) = omega (arith, length-append xs (x ∷ [])) in
      ap (λ n. n * u) more ∙ suc-mul (length xs) u

  pub one-more : (xs : List A) (x : A) → length (xs ++ x ∷ []) ≡ length xs + 1
  one-more xs x = omega (arith, length-append xs (x ∷ []))

  -- after some of a list and one more
  pub cost-within : (xs : List A) (x : A) (rest whole : List A) (u : ℕ) → xs ++ x ∷ rest ≡ whole → length xs * u + u ≤ length whole * u
  cost-within xs x rest whole u e = grind (arith, suc, length, length-append, grow, suc-mul)

  pub sum-more-cost : (f : A → ℕ) (xs : List A) (x : A) (b : ℕ) → sum_by f (xs ++ x ∷ []) * b ≡ sum_by f xs * b + f x * b
  sum-more-cost f xs x b = grind (arith, sum_by, sum_by-cons, sum_by-append, add-times)

  pub sum-within : (f : A → ℕ) (xs : List A) (x : A) (rest whole : List A) (b : ℕ) → xs ++ x ∷ rest ≡ whole
      → sum_by f xs * b + f x * b ≤ sum_by f whole * b
  sum-within f xs x rest whole b e = grind (arith, sum_by, sum_by-append, sum_by-cons, grow, add-times)

-- one rise fewer pays for a pass
pub pass-paid : (less more u : ℕ) → less < more → (1 + less) * u + u ≤ (1 + more) * u
pass-paid less more u lt = grind (arith, suc, suc-mul, grow)

pub last-pass : (left u : ℕ) → u ≤ (1 + left) * u
last-pass left u = let whole : suc left ≡ 1 + left = omega arith in rw (← whole) (omega (arith, suc-mul left u))

-- what registers have left to rise
pub most-rises : (t : ClassTable) (regs : List Ty) → ((a : Ty) → rises_left t a ≤ height t + 3)
    → sum_by (rises_left t) regs ≤ length regs * (height t + 3)
most-rises t [] most = omega arith
most-rises t (a ∷ regs) most = grind (arith, sum_by-cons, suc-mul, length, most-rises t regs most)

-- the bound, from the scans and from the passes
pub whole-bound : (p n e b m : ℕ) → m + e * b + p * (n * (b + 1)) ≡ p * n + (p * n + e) * b + m
whole-bound p n e b m = grind (arith, suc, mul-suc, times-add, mul_assoc, add-times)

-- what holds in any case
pub answered-ok : {A B : Type 0} {P : Type 0} (r : Result A B) → P → OnOk r P
answered-ok x p = grind (arith)
