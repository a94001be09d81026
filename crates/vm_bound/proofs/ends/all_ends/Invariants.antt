use Rattle.vm_bound.specs.Runs.{IsWalk}
use Rattle.vm_bound.proofs.ends.all_ends.Given as goal

abbrev pub invariant-positions : goal.invariant-positions
invariant-positions l = IsWalk l.world.classes l.order l.at l.begun.items l.ends.items
