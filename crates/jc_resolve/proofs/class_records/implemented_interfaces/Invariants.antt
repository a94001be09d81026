use Rattle.std.proofs.Common.{◌≡◌, ◌++◌, map}
use Rattle.cap_class.specs.ClassFormat.{Interface}
use Rattle.cap_class.specs.Lists.{interfaces_left}
use Rattle.jc_resolve.specs.Homes.{least_at}
use Rattle.jc_resolve.specs.NamedClasses.{implemented_interfaces}
use Rattle.jc_resolve.proofs.class_records.implemented_interfaces.Given as goal

abbrev pub invariant-interfaces : goal.invariant-interfaces
invariant-interfaces l =
    (l.named.items ++ implemented_interfaces l.home.index.now l.home.number (interfaces_left l.interface-iterator)
    ≡ implemented_interfaces l.home.index.now l.home.number (interfaces_left l.fn.interfaces))
    × (least_at l.home l.least (map (λ (i : Interface). i.class_ref) (interfaces_left l.interface-iterator))
    ≡ least_at l.home l.initial.least (map (λ (i : Interface). i.class_ref) (interfaces_left l.fn.interfaces)))
