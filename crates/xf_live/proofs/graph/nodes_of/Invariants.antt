use Rattle.std.proofs.Common.{take}
use Rattle.xf_live.specs.Flow.{AreNodesOf}
use Rattle.xf_live.proofs.graph.nodes_of.Given as goal

abbrev pub invariant-edges : goal.invariant-edges
invariant-edges l = record { nodes : AreNodesOf l.uses (take l.edge-index l.edges) l.nodes.items }
