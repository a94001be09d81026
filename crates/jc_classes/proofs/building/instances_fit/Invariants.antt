use Rattle.std.proofs.Common.{◌≡◌}
use Rattle.std.specs.List.{range_with_len}
use Rattle.jc_resolve.specs.Fault.{link_place}
use Rattle.first_fault.specs.Least.{least_of}
use Rattle.jc_classes.specs.TableConditions.{long_fault}
use Rattle.jc_classes.proofs.building.instances_fit.Given as goal

abbrev pub invariant-classes : goal.invariant-classes
invariant-classes l = l.least ≡ least_of link_place (long_fault l.lineage l.classes) (range_with_len 0 l.c)
