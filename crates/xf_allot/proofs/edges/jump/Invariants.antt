use Rattle.std.proofs.Common.{◌≡◌, ◌++◌}
use Rattle.jc_control.specs.Targets.{rest_of}
use Rattle.jc_decode.specs.Listing.{targets}
use Rattle.xf_allot.specs.Graph.{Adds, IsJumpTo}
use Rattle.xf_allot.proofs.edges.jump.Given as goal

abbrev pub invariant-targets : goal.invariant-targets
invariant-targets l = record {
  adds : Adds (IsJumpTo l.yielded l.fn.placed) l.fn.edges.items l.edges.items;
  whole : l.yielded ++ rest_of l.target-iterator ≡ targets l.subject.code.bytes.now l.fn.placed;
}
