use Rattle.std.proofs.Common.{◌≡◌, ◌++◌, All}
use Rattle.jc_decode.specs.Listing.{targets}
use Rattle.jc_control.specs.Subject.{method}
use Rattle.jc_control.specs.Targets.{rest_of}
use Rattle.jc_control.specs.Traversal.{Grows, IsSoundTraversal, IsLedTo}
use Rattle.jc_control.proofs.traversal.Traversal.jump.Given as goal

abbrev pub invariant-targets : goal.invariant-targets
invariant-targets l = record {
  sound : IsSoundTraversal (method l.subject) l.self;
  grows : Grows l.fn.self l.self;
  led : All (IsLedTo l.self) l.yielded;
  whole : l.yielded ++ rest_of l.target-iterator ≡ targets l.subject.code.bytes.now l.fn.placed;
}
