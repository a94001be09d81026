use Rattle.std.proofs.Common.{◌≡◌, ◌++◌, map}
use Rattle.jc_control.specs.Targets.{rest_of}
use Rattle.jc_decode.specs.Listing.{targets}
use Rattle.law_renumbered.specs.Symbols.{labels_of}
use Rattle.vm_step.specs.Settled.{place_number}
use Rattle.xf_share.proofs.items.labels.Given as goal

abbrev pub invariant-targets : goal.invariant-targets
invariant-targets l = record {
  so_far : l.labels.items ++ map place_number (rest_of l.target-iterator) ≡ labels_of l.code.bytes.now l.fn.placed;
  whole : l.yielded ++ rest_of l.target-iterator ≡ targets l.code.bytes.now l.fn.placed;
}
