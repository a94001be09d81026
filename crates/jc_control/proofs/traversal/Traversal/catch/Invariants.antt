use Rattle.std.proofs.Common.{take, All}
use Rattle.jc_control.specs.Subject.{method}
use Rattle.jc_control.specs.Traversal.{Grows, IsSoundTraversal, IsCaught}
use Rattle.jc_control.proofs.traversal.Traversal.catch.Given as goal

abbrev pub invariant-handlers : goal.invariant-handlers
invariant-handlers l = record {
  sound : IsSoundTraversal (method l.subject) l.self;
  grows : Grows l.fn.self l.self;
  caught : All (IsCaught l.self l.place) (take l.handler-index l.subject.rec.now.handlers);
}
