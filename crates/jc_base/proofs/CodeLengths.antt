-- How long the code of a method is.
use Rattle.std.proofs.Common.{◌≡◌, ℕ, ◌<◌, ◌≤◌, Bool, false, MatchBool, arith}
use Rattle.jc_base.specs.Linked.{IsCodeLength}

-- a method whose code is not empty is one that has code
pub has_code : (b : Bool) (n : ℕ) → MatchBool b (n ≡ 0) (IsCodeLength n) → 0 < n → b ≡ false
has_code x n h lt = grind (arith)

pub length-short : (b : Bool) (n : ℕ) → MatchBool b (n ≡ 0) (IsCodeLength n) → n ≤ 32767
length-short x n h = grind (arith)
