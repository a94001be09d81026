use Rattle.std.proofs.Common.{take}
use Rattle.xf_live.specs.Flow.{AreUnlinked}
use Rattle.xf_live.proofs.graph.unlinked.Given as goal

abbrev pub invariant-uses : goal.invariant-uses
invariant-uses l = record { nodes : AreUnlinked (take l.node-index l.uses) l.nodes.items }
