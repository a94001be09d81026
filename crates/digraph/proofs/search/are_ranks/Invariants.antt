use Rattle.std.proofs.Common.{ℕ, ◌<◌, ◌≤◌, All}
use Rattle.digraph.specs.Graph.{next}
use Rattle.digraph.specs.Ranks.{rank_of}
use Rattle.digraph.proofs.search.are_ranks.Given as goal

abbrev pub invariant-vertices : goal.invariant-vertices
invariant-vertices l = (u : ℕ) → u < l.v → All (λ w. rank_of l.ranks w ≤ rank_of l.ranks u) (next l.graph u)
