use Rattle.std.proofs.Common.{◌≡◌, ℕ, ◌<◌}
use Rattle.digraph.specs.Settled.{IsTable, IsStuck}
use Rattle.digraph.proofs.settling.settle_one.Given as goal

abbrev pub invariant-vertices : goal.invariant-vertices
invariant-vertices l = record {
  table : IsTable l.graph l.weights l.known.items;
  same : l.known.items ≡ l.fn.known.items;
  stuck : (u : ℕ) → u < l.v → IsStuck l.graph l.fn.known.items u;
}
