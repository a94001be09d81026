use Rattle.std.proofs.Common.{◌≡◌, ◌+◌, ◌++◌, flat_map, length}
use Rattle.cap_desc.specs.ClassRecords.{described_left}
use Rattle.jc_resolve.specs.Homes.{description_at, records_at, least_at, methods_from}
use Rattle.jc_resolve.specs.LookedUp.{references_with_methods, references_for_methods}
use Rattle.jc_resolve.proofs.method_records.push_package.Given as goal

abbrev pub invariant-classes : goal.invariant-classes
invariant-classes l =
    (l.methods.items ++ methods_from l.home l.class_no (described_left l.class-iterator) ≡ l.initial.methods.items ++ methods_from l.home 0
    (records_at l.home))
    × (l.class_no + length (described_left l.class-iterator) ≡ length (records_at l.home))
    × (least_at l.home l.least (flat_map (references_with_methods (description_at l.home)) (described_left l.class-iterator))
    ≡ least_at l.home l.initial.least (references_for_methods l.home.of_package.now))
