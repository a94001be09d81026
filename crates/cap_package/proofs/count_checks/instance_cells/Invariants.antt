use Rattle.std.proofs.Common.{◌≡◌, ◌+◌, ◌*◌, ◌≤◌, length}
use Rattle.cap_desc.specs.ClassRecords.{described_class_seen}
use Rattle.cap_desc.specs.MemberLists.{fields_left}
use Rattle.cap_components.specs.Descriptions.{description}
use Rattle.cap_package.specs.CountChecks.{own_instance_cells}
use Rattle.cap_package.proofs.count_checks.instance_cells.Given as goal

abbrev pub invariant-fields : goal.invariant-fields
invariant-fields l =
    (l.cells + own_instance_cells (description l.descriptor) (fields_left l.field-iterator) ≡ own_instance_cells (description l.descriptor)
    (described_class_seen l.class).fields) × (l.cells + 2 * length (fields_left l.field-iterator) ≤ 2 * l.count)
