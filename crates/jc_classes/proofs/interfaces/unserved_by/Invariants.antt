use Rattle.std.proofs.Common.{◌≡◌, drop, map}
use Rattle.jc_base.specs.declared.record.Iface.{Iface}
use Rattle.jc_resolve.specs.Fault.{link_place}
use Rattle.first_fault.specs.Least.{least_from}
use Rattle.jc_classes.specs.TableConditions.{interface_type_fault}
use Rattle.jc_classes.proofs.interfaces.unserved_by.Given as goal

abbrev pub invariant-interfaces : goal.invariant-interfaces
invariant-interfaces l =
    least_from link_place l.least (interface_type_fault l.methods)
    (map (λ (i : Iface). record { class = l.c; public = l.public; iface = i }) (drop l.iface-index l.class.interfaces))
    ≡ least_from link_place l.fn.least (interface_type_fault l.methods)
    (map (λ (i : Iface). record { class = l.c; public = l.public; iface = i }) l.class.interfaces)
