use Rattle.std.proofs.Common.{◌≡◌, ◌≤◌, ◌*◌, ◌+◌, length}
use Rattle.cap_package.specs.PackagesLeft.{packages_left}
use Rattle.jc_resolve.specs.Counts.{method_total}
use Rattle.jc_resolve.proofs.counts.method_total.Given as goal

abbrev pub invariant-packages : goal.invariant-packages
invariant-packages l =
    (l.count + method_total (packages_left l.package-iterator) ≡ method_total l.packages)
    × (l.count + 16711425 * length (packages_left l.package-iterator) ≤ 16711425 * length l.packages)
