use Rattle.std.proofs.Common.{◌≡◌, ◌+◌, length}
use Rattle.cap_package.specs.PackagesLeft.{packages_left}
use Rattle.jc_resolve.specs.Counts.{method_total}
use Rattle.jc_resolve.specs.Numbers.{none_numbered, with_all, method_spots}
use Rattle.jc_resolve.proofs.method_index.number_methods.Given as goal

abbrev pub invariant-packages : goal.invariant-packages
invariant-packages l =
    (with_all l.numbers (method_spots l.k (packages_left l.package-iterator)) ≡ with_all none_numbered (method_spots 0 l.packages))
    × (l.numbers.next + method_total (packages_left l.package-iterator) ≡ method_total l.packages)
    × (l.k + length (packages_left l.package-iterator) ≡ length l.packages)
