use Rattle.std.proofs.Common.{◌≡◌, ◌+◌, ◌≤◌, length}
use Rattle.vm_bound.specs.Rows.{AreRows}
use Rattle.vm_bound.proofs.graph.graph_over.Given as goal

abbrev pub invariant-methods : goal.invariant-methods
invariant-methods l = record {
  long : length l.rows.items ≡ l.method;
  rows : AreRows l.world l.spread l.meanings l.rows.items;
}

abbrev pub invariant-meanings : goal.invariant-meanings
invariant-meanings l = record {
  long : length l.rows.items ≡ length l.world.methods + l.place;
  within : l.place ≤ length l.meanings;
  rows : AreRows l.world l.spread l.meanings l.rows.items;
}
