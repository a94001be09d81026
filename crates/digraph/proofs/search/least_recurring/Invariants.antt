use Rattle.std.proofs.Common.{ℕ, ◌<◌}
use Rattle.digraph.specs.Way.{Recurs}
use Rattle.digraph.specs.Graph.{Edge}
use Rattle.digraph.proofs.search.least_recurring.Given as goal

abbrev pub invariant-vertices : goal.invariant-vertices
invariant-vertices l = (u : ℕ) → u < l.v → ¬ (Recurs (Edge l.graph) l.from u)
