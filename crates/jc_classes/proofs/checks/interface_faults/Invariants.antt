use Rattle.std.proofs.Common.{◌≡◌, map, drop}
use Rattle.jc_resolve.specs.Fault.{link_place}
use Rattle.first_fault.specs.Least.{least_from}
use Rattle.jc_classes.specs.LineConditions.{not_interface_fault}
use Rattle.jc_classes.proofs.checks.interface_faults.Given as goal

abbrev pub invariant-interfaces : goal.invariant-interfaces
invariant-interfaces l =
    least_from link_place l.least (not_interface_fault l.classes) (map (λ i. (l.c, i)) (drop l.interface-index l.interfaces))
    ≡ least_from link_place l.fn.least (not_interface_fault l.classes) (map (λ i. (l.c, i)) l.interfaces)
