use Rattle.std.proofs.Common.{◌≡◌}
use Rattle.jc_resolve.specs.Fault.{link_place}
use Rattle.first_fault.specs.Least.{least_of, least_from}
use Rattle.jc_classes.specs.LineConditions.{numbered, super_fault}
use Rattle.jc_classes.proofs.Numbered.{numbered_from}
use Rattle.jc_classes.proofs.checks.supers_are_classes.Given as goal

abbrev pub invariant-classes : goal.invariant-classes
invariant-classes l =
    least_from link_place l.least (super_fault l.classes) (numbered_from l.c l.classes) ≡ least_of link_place (super_fault l.classes) (numbered l.classes)
