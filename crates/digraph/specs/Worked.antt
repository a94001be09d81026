-- Worked cases of ways.
use Rattle.std.specs.Prelude.{◌≡◌, ℕ, ◌+◌, [], ◌∷◌}
use Rattle.std.proofs.Common.{refl, inl, inr}
use Rattle.digraph.specs.Way.{by_step, way_ends, way_goes, total, StandsTwiceInWay, Recurs}

-- 0 is related to 1, and 1 to itself
pub data Small : ℕ → ℕ → Type 0 where
  zero_one : Small 0 1
  one_one : Small 1 1

-- 1 comes again, and stands twice in a way from 0
abbrev pub one_recurs : Recurs Small 0 1
one_recurs = record { there = inr (by_step zero_one); again = by_step one_one }

abbrev pub one_twice : StandsTwiceInWay Small 0 1
one_twice = record { way = 0 ∷ 1 ∷ 1 ∷ []; is_way = way_goes zero_one (way_goes one_one way_ends); twice = inr (inl (refl, inl refl)) }

-- that way measures five, where 0 measures one and 1 two
pub measure_five : total (λ v. v + 1) (0 ∷ 1 ∷ 1 ∷ []) ≡ 5
measure_five = refl
