use Rattle.std.proofs.Common.{length}
use Rattle.vm_bound.specs.Runs.{IsWalk}
use Rattle.vm_bound.proofs.ends.walk_on.Given as goal

abbrev pub invariant-begun : goal.invariant-begun
invariant-begun l = IsWalk l.world.classes l.order l.at l.begun.items l.ends.items

abbrev pub decreases-begun : goal.decreases-begun
decreases-begun l = length l.begun.items
