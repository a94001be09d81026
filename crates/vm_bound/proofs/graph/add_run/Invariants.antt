use Rattle.vm_bound.proofs.Covering.{IsCovering}
use Rattle.vm_bound.proofs.graph.add_run.Given as goal

abbrev pub invariant-levels : goal.invariant-levels
invariant-levels l = IsCovering l.count l.from l.to l.class l.fn.blocks.items l.blocks.items l.low l.high

abbrev pub decreases-levels : goal.decreases-levels
decreases-levels l = l.high
