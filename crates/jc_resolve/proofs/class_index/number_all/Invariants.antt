use Rattle.std.proofs.Common.{◌≡◌, ◌+◌, ◌++◌, length}
use Rattle.cap_package.specs.PackagesLeft.{packages_left}
use Rattle.jc_resolve.specs.Numbers.{none_numbered, with_all, class_spots, interface_flags}
use Rattle.jc_resolve.specs.Counts.{class_total}
use Rattle.jc_resolve.proofs.class_index.number_all.Given as goal

abbrev pub invariant-packages : goal.invariant-packages
invariant-packages l =
    (with_all l.numbers (class_spots l.k (packages_left l.package-iterator)) ≡ with_all none_numbered (class_spots 0 l.packages))
    × (l.interfaces.items ++ interface_flags (packages_left l.package-iterator) ≡ interface_flags l.packages)
    × (l.numbers.next + class_total (packages_left l.package-iterator) ≡ class_total l.packages)
    × (l.k + length (packages_left l.package-iterator) ≡ length l.packages)
