use Rattle.std.proofs.Common.{◌≡◌}
use Rattle.jc_resolve.specs.Fault.{link_place}
use Rattle.first_fault.specs.Least.{least_of, least_from}
use Rattle.jc_classes.specs.LineConditions.{numbered, root_fault}
use Rattle.jc_classes.proofs.Numbered.{numbered_from}
use Rattle.jc_classes.proofs.checks.classes_have_supers.Given as goal

abbrev pub invariant-classes : goal.invariant-classes
invariant-classes l =
    least_from link_place l.least (root_fault l.object) (numbered_from l.c l.classes) ≡ least_of link_place (root_fault l.object) (numbered l.classes)
