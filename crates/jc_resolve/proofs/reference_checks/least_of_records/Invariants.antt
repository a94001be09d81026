use Rattle.std.proofs.Common.{◌≡◌, flat_map}
use Rattle.cap_desc.specs.ClassRecords.{described_left}
use Rattle.jc_resolve.specs.LookedUp.{least_named, references_without_methods}
use Rattle.jc_resolve.proofs.reference_checks.least_of_records.Given as goal

abbrev pub invariant-records : goal.invariant-records
invariant-records l =
    least_named l.index l.«package» l.least (flat_map references_without_methods (described_left l.described-iterator))
    ≡ least_named l.index l.«package» l.initial.least (flat_map references_without_methods (described_left l.fn.records))
