use Rattle.std.proofs.Common.{◌≡◌}
use Rattle.std.specs.Prelude.{flat_map}
use Rattle.std.specs.List.{range_with_len}
use Rattle.jc_resolve.specs.Fault.{link_place}
use Rattle.first_fault.specs.Least.{least_of}
use Rattle.jc_classes.specs.TableConditions.{interface_type_fault, implementations_in}
use Rattle.jc_classes.proofs.interfaces.interfaces_served.Given as goal

abbrev pub invariant-classes : goal.invariant-classes
invariant-classes l =
    l.least ≡ least_of link_place (interface_type_fault l.methods) (flat_map (implementations_in l.lineage l.classes) (range_with_len 0 l.c))
