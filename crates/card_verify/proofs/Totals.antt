-- The steps over all methods of a world.
use Rattle.std.proofs.Common.{◌≡◌, ℕ, zero, suc, ◌+◌, ◌-◌, ◌^◌, ◌<◌, ◌≤◌, List, length, Option, Some, IsSomeAnd}
use Rattle.std.proofs.Common.{subst, arith}
use Rattle.jc_base.specs.World.{Linked, index_of}
use Rattle.jc_control.specs.Method.{Method, method_in}
use Rattle.card_verify.specs.Bound.{step_bound, IsShortAt, bound_over, bound_at, bounds_before}

-- ---- one method

module _ (w : Linked) (before after : ℕ) where
  paid-over : (index : List ℕ) (o : Option Method)
      → IsSomeAnd o (λ m. (digits : ℕ) → length index < 2 ^ digits → after ≤ before + step_bound w m (length index) digits) → (digits : ℕ)
      → length index < 2 ^ digits → after ≤ before + bound_over w digits o (Some index)
  paid-over index x paid digits lt = grind (arith)

pub cost-served :
    (w : Linked) (n : ℕ) (index : List ℕ) (before after : ℕ)
    → index_of w n ≡ Some index
    → IsSomeAnd (method_in w n) (λ m. (digits : ℕ) → length index < 2 ^ digits → after ≤ before + step_bound w m (length index) digits)
    → (digits : ℕ) → IsShortAt w digits n → after ≤ before + bound_at w digits n
cost-served w n index before after has paid digits short = grind (arith, length, paid-over)

-- ---- one after another

pub cost-more : (w : Linked) (digits n before here after : ℕ) → here ≤ before + bounds_before w digits n → after ≤ here + bound_at w digits n
    → after ≤ before + bounds_before w digits (n + 1)
cost-more w digits n before here after so_far more =
    let next : suc n ≡ n + 1 = omega arith in
    subst (λ k. after ≤ before + bounds_before w digits k) next (sum so_far more)
  where
    sum : here ≤ before + bounds_before w digits n → after ≤ here + bound_at w digits n
        → after ≤ before + (bounds_before w digits n + bound_at w digits n)
    sum a b = omega (arith, a, b)

bounds-rise : (w : Linked) (digits d n : ℕ) → bounds_before w digits n ≤ bounds_before w digits (d + n)
bounds-rise w digits zero n = let same : n ≡ zero + n = omega arith in subst (λ k. bounds_before w digits n ≤ bounds_before w digits k) same (omega arith)
bounds-rise w digits (suc d) n =
    let next : suc (d + n) ≡ suc d + n = omega arith in
    subst (λ k. bounds_before w digits n ≤ bounds_before w digits k) next (sum (bounds-rise w digits d n))
  where
    sum : bounds_before w digits n ≤ bounds_before w digits (d + n) → bounds_before w digits n ≤ bounds_before w digits (d + n) + bound_at w digits
        (d + n)
    sum a = omega (arith, a)

pub cost-within-all : (w : Linked) (digits n before after : ℕ) → n ≤ length w.methods → after ≤ before + bounds_before w digits n
    → after ≤ before + bounds_before w digits (length w.methods)
cost-within-all w digits n before after le so_far =
    let whole : (length w.methods - n) + n ≡ length w.methods = omega (arith, le) in
    let rise = subst (λ k. bounds_before w digits n ≤ bounds_before w digits k) whole (bounds-rise w digits (length w.methods - n) n) in
    omega (arith, so_far, rise)
