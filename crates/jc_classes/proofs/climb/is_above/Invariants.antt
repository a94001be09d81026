use Rattle.std.proofs.Common.{length}
use Rattle.jc_classes.specs.Ancestor.{above}
use Rattle.jc_classes.proofs.Marking.{IsClimb, work}
use Rattle.jc_classes.proofs.climb.is_above.Given as goal

abbrev pub invariant-pending : goal.invariant-pending
invariant-pending l = IsClimb (above l.classes l.interfaces) (length l.classes) l.c l.climb

abbrev pub decreases-pending : goal.decreases-pending
decreases-pending l = work l.climb
