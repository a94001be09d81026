-- The search for a key that does not rise, pair by pair.
use Rattle.std.proofs.Common.{◌≡◌, ℕ, suc, ◌+◌, ◌-◌, ◌*◌, ◌<◌, ◌≤◌, Bool, cond, Some, None, refl, arith}
use Rattle.std.specs.List.{find, range_with_len}
use Rattle.std.proofs.Math.Nat.{mul-le-mul_left}

-- a search from n on begins with n
pub find-range_more : (p : ℕ → Bool) (n end : ℕ) → n < end
    → find p (range_with_len n (end - n)) ≡ cond (p n) (Some n) (find p (range_with_len (n + 1) (end - (n + 1))))
find-range_more p n end h = grind (arith, suc)

-- a search past the end finds nothing
pub find-range_done : (p : ℕ → Bool) (n end : ℕ) → end ≤ n → find p (range_with_len n (end - n)) ≡ None
find-range_done p n end h = let e : end - n ≡ 0 = omega arith in rw e refl

-- a pair begins before the table ends
pub pair_inside : (width n count : ℕ) → n ≤ count → width * n ≤ width * count
pair_inside width n count h = mul-le-mul_left width h

pub ruleset pairs_facts = (find-range_more, find-range_done, pair_inside)
