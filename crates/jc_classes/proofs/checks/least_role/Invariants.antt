use Rattle.std.proofs.Common.{◌≡◌}
use Rattle.jc_resolve.specs.Fault.{link_place}
use Rattle.first_fault.specs.Least.{least_of, least_from}
use Rattle.jc_classes.specs.LineConditions.{numbered, role_fault}
use Rattle.jc_classes.proofs.Numbered.{numbered_from}
use Rattle.jc_classes.proofs.checks.least_role.Given as goal

abbrev pub invariant-roles : goal.invariant-roles
invariant-roles l =
    least_from link_place l.least (role_fault l.classes l.first l.throwable) (numbered_from l.k l.roles) ≡ least_of link_place
    (role_fault l.classes l.first l.throwable) (numbered l.roles)
