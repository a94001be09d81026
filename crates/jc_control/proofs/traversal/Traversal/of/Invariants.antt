use Rattle.jc_control.specs.Flags.{IsFlagged}
use Rattle.jc_control.specs.Subject.{method}
use Rattle.jc_control.specs.Traversal.{IsSoundTraversal, IsClosed, work}
use Rattle.jc_control.proofs.traversal.Traversal.of.Given as goal

abbrev pub invariant-work : goal.invariant-work
invariant-work l = record {
  sound : IsSoundTraversal (method l.subject) l.traversal;
  closed : IsClosed (method l.subject) l.traversal;
  start : IsFlagged l.traversal.reached 0;
}

abbrev pub decreases-work : goal.decreases-work
decreases-work l = work l.traversal
