use Rattle.std.proofs.Common.{◌≡◌, ◌+◌, length}
use Rattle.jc_resolve.specs.Fault.{link_place}
use Rattle.first_fault.specs.Least.{least_from}
use Rattle.cap_package.specs.PackagesLeft.{packages_left}
use Rattle.jc_resolve.specs.Conditions.{no_class_fault, named_after, named_in}
use Rattle.jc_resolve.specs.LookedUp.{references_besides}
use Rattle.jc_resolve.proofs.reference_checks.besides_named.Given as goal

abbrev pub invariant-packages : goal.invariant-packages
invariant-packages l =
    (least_from link_place l.least (no_class_fault l.index) (named_after references_besides l.k (packages_left l.package-iterator))
    ≡ least_from link_place l.initial.least (no_class_fault l.index) (named_in references_besides l.packages))
    × (l.k + length (packages_left l.package-iterator) ≡ length l.packages)
