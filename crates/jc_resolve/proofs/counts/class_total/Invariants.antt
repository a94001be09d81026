use Rattle.std.proofs.Common.{◌≡◌, ◌≤◌, ◌*◌, ◌+◌, length}
use Rattle.cap_package.specs.PackagesLeft.{packages_left}
use Rattle.jc_resolve.specs.Counts.{class_total}
use Rattle.jc_resolve.proofs.counts.class_total.Given as goal

abbrev pub invariant-packages : goal.invariant-packages
invariant-packages l =
    (l.count + class_total (packages_left l.package-iterator) ≡ class_total l.packages)
    × (l.count + 65535 * length (packages_left l.package-iterator) ≤ 65535 * length l.packages)
