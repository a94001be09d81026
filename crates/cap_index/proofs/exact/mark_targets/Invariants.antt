use Rattle.std.proofs.Common.{◌≡◌}
use Rattle.jc_decode.specs.Listing.{targets}
use Rattle.jc_control.specs.Flags.{flag}
use Rattle.jc_control.specs.Targets.{rest_of}
use Rattle.cap_index.specs.Marking.{marked}
use Rattle.cap_index.proofs.exact.mark_targets.Given as goal

abbrev pub invariant-targets : goal.invariant-targets
invariant-targets l =
    marked (flag l.places) l.flags.items (rest_of l.target-iterator) ≡ marked (flag l.places) l.initial.flags.items (targets l.code.bytes.now l.fn.placed)
