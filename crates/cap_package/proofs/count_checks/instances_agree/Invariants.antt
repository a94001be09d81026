use Rattle.std.proofs.Common.{◌≡◌}
use Rattle.cap_class.specs.ClassPart.{records}
use Rattle.cap_desc.specs.ClassRecords.{described_left}
use Rattle.cap_components.specs.Order.{least_of, least_from}
use Rattle.cap_components.specs.Descriptions.{description}
use Rattle.cap_package.specs.ClassSearch.{Serves}
use Rattle.cap_package.specs.CountChecks.{instance_fault}
use Rattle.cap_package.proofs.count_checks.instances_agree.Given as goal

abbrev pub invariant-classes : goal.invariant-classes
invariant-classes l =
    (least_from l.least (instance_fault (records l.classes) (description l.descriptor)) (described_left l.class-iterator)
    ≡ least_of (instance_fault (records l.classes) (description l.descriptor)) (description l.descriptor).items.classes)
    × Serves l.search
    × (l.search.classes ≡ l.classes)
