use Rattle.std.proofs.Common.{◌≤◌, length}
use Rattle.xf_allot.specs.Graph.{IsGraphTo}
use Rattle.jc_control.specs.Subject.{method, world_of}
use Rattle.xf_allot.proofs.building.Building.of.Given as goal

abbrev pub invariant-places : goal.invariant-places
invariant-places l = record {
  within : l.place ≤ length l.subject.code.bytes.now;
  graph : IsGraphTo (world_of l.subject) (method l.subject) l.place l.graph.uses.items l.graph.edges.items;
}
