use Rattle.std.proofs.Common.{◌≡◌, ◌+◌, length}
use Rattle.jc_resolve.specs.Fault.{link_place}
use Rattle.first_fault.specs.Least.{least_from, least_of}
use Rattle.cap_package.specs.PackagesLeft.{packages_left}
use Rattle.jc_link.specs.Catches.{handlers_after, handler_places, catch_fault}
use Rattle.jc_link.proofs.catches.handlers_fit.Given as goal

abbrev pub invariant-packages : goal.invariant-packages
invariant-packages l =
    (least_from link_place l.least (catch_fault l.names.packages l.classes) (handlers_after l.k (packages_left l.package-iterator))
    ≡ least_of link_place (catch_fault l.names.packages l.classes) (handler_places l.names.packages))
    × (l.k + length (packages_left l.package-iterator) ≡ length l.names.packages)
