use Rattle.std.proofs.Common.{◌≡◌}
use Rattle.offset_set.specs.Bits.{holds}
use Rattle.cap_desc.specs.Members.{methods_in}
use Rattle.cap_desc.specs.ClassRecords.{described_left}
use Rattle.cap_components.specs.Order.{least_from}
use Rattle.cap_components.specs.Descriptions.{description}
use Rattle.cap_package.specs.TypeChecks.{method_type_fault}
use Rattle.cap_package.proofs.type_checks.interface_types.Given as goal

abbrev pub invariant-classes : goal.invariant-classes
invariant-classes l =
    least_from l.least (method_type_fault (description l.descriptor) 254) (methods_in (holds l.interfaces) (described_left l.class-iterator))
    ≡ least_from l.initial.least (method_type_fault (description l.descriptor) 254)
    (methods_in (holds l.interfaces) (description l.descriptor).items.classes)
