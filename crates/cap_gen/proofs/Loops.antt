-- What is appended for one method after the other.
use Rattle.std.proofs.Common.{◌≡◌, ◌≤◌, ◌<◌, ◌+◌, ◌-◌, ℕ, suc, List, [], ◌++◌, refl, arith}
use Rattle.std.proofs.Common.{append_assoc}
use Rattle.std.proofs.lemmas.List.{append-nil}
use Rattle.std.specs.List.{flat_map, range_with_len}
use Rattle.cap_gen.specs.Methods.{each_method}

pub ruleset steps = (append_assoc)

-- what the methods give from one on
unfoldable pub each_from : {X : Type 0} → (ℕ → List X) → ℕ → List X
each_from f k = flat_map f (range_with_len k (200 - k))

from_first : {X : Type 0} (f : ℕ → List X) → each_from f 0 ≡ each_method f
unfolding each_from each_method
from_first f = refl

-- the next method comes first
each_next : {X : Type 0} (f : ℕ → List X) (k : ℕ) → k < 200 → each_from f k ≡ f k ++ each_from f (k + 1)
unfolding each_from
each_next f k h = grind (arith, suc)

-- after the last there is nothing
each_done : {X : Type 0} (f : ℕ → List X) (k : ℕ) → 200 ≤ k → each_from f k ≡ []
unfolding each_from
each_done f k h = grind (arith)

pub each_more : {X : Type 0} (f : ℕ → List X) (k : ℕ) (now next whole : List X) → k < 200 → next ≡ now ++ f k
    → now ++ each_from f k ≡ whole → next ++ each_from f (k + 1) ≡ whole
each_more f k now next whole below e h = grind (arith, append_assoc, each_next)

pub each_all : {X : Type 0} (f : ℕ → List X) (k : ℕ) (now start : List X) → 200 ≤ k → now ++ each_from f k ≡ start ++ each_from f 0
    → now ≡ start ++ each_method f
each_all f k now start end h = grind (arith, append-nil, each_done, from_first)
