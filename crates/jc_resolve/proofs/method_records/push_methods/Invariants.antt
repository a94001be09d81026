use Rattle.std.proofs.Common.{◌≡◌, ◌+◌, ◌++◌, flat_map, length}
use Rattle.cap_desc.specs.ClassRecords.{described_class_seen}
use Rattle.cap_desc.specs.MemberLists.{methods_left}
use Rattle.jc_resolve.specs.Conditions.{references_of_method}
use Rattle.jc_resolve.specs.Homes.{description_at, least_at, methods_at}
use Rattle.jc_resolve.proofs.method_records.push_methods.Given as goal

abbrev pub invariant-methods : goal.invariant-methods
invariant-methods l =
    (l.methods.items ++ methods_at l.home l.of_class.class_no (described_class_seen l.of_class.record) l.method_no (methods_left l.method-iterator)
    ≡ l.initial.methods.items ++ methods_at l.home l.of_class.class_no (described_class_seen l.of_class.record) 0
    (described_class_seen l.of_class.record).methods)
    × (l.method_no + length (methods_left l.method-iterator) ≡ length (described_class_seen l.of_class.record).methods)
    × (least_at l.home l.least (flat_map (references_of_method (description_at l.home)) (methods_left l.method-iterator))
    ≡ least_at l.home l.initial.least (flat_map (references_of_method (description_at l.home)) (described_class_seen l.of_class.record).methods))
