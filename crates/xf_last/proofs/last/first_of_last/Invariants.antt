use Rattle.std.proofs.Common.{ℕ, ◌≤◌}
use Rattle.xf_last.specs.Last.{BeginsLast}
use Rattle.xf_last.proofs.last.first_of_last.Given as goal

abbrev pub invariant-methods : goal.invariant-methods
invariant-methods l = (first : ℕ) → BeginsLast l.world first → l.number ≤ first
