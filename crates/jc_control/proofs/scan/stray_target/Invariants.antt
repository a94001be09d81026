use Rattle.std.proofs.Common.{◌≡◌, ◌++◌, All}
use Rattle.jc_decode.specs.Listing.{targets}
use Rattle.jc_control.specs.WellFormed.{IsTargetPlace}
use Rattle.jc_control.specs.Targets.{rest_of}
use Rattle.jc_control.proofs.scan.stray_target.Given as goal

abbrev pub invariant-targets : goal.invariant-targets
invariant-targets l = record {
  so_far : All (IsTargetPlace l.code.bytes.now) l.yielded;
  whole : l.yielded ++ rest_of l.target-iterator ≡ targets l.code.bytes.now l.fn.placed;
}
