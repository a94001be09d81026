use Rattle.std.proofs.Common.{◌≡◌}
use Rattle.jc_resolve.specs.Fault.{link_place}
use Rattle.first_fault.specs.Least.{least_of, least_from}
use Rattle.jc_classes.specs.LineConditions.{interfaces_of, named_interfaces, not_interface_fault}
use Rattle.jc_classes.proofs.Numbered.{numbered_from}
use Rattle.jc_classes.proofs.checks.named_are_interfaces.Given as goal

abbrev pub invariant-classes : goal.invariant-classes
invariant-classes l =
    least_from link_place l.least (not_interface_fault l.classes) (interfaces_of (numbered_from l.c l.classes)) ≡ least_of link_place
    (not_interface_fault l.classes) (named_interfaces l.classes)
