use Rattle.std.proofs.Common.{◌≡◌, ◌≤◌, ◌+◌, length}
use Rattle.jc_decode.specs.Listing.{targets}
use Rattle.jc_control.specs.Targets.{rest_of}
use Rattle.link_tests.proofs.counting.few_targets.Given as goal

abbrev pub invariant-targets : goal.invariant-targets
invariant-targets l = record {
  few : l.count ≤ l.fn.most;
  so_far : l.count + length (rest_of l.iterator') ≡ length (targets l.code.bytes.now l.fn.placed);
}
