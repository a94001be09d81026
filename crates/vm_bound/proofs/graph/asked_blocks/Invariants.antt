use Rattle.std.proofs.Common.{length}
use Rattle.vm_bound.specs.Runs.{AreRuns}
use Rattle.vm_bound.proofs.Serving.{IsByNearest}
use Rattle.vm_bound.proofs.graph.asked_blocks.Given as goal

abbrev pub invariant-classes : goal.invariant-classes
invariant-classes l = AreRuns (length l.order) (IsByNearest l.world.classes l.interface l.order) l.at l.blocks.items
