use Rattle.std.proofs.Common.{◌≡◌, ◌+◌, ◌++◌, length}
use Rattle.cap_package.specs.PackagesLeft.{packages_left}
use Rattle.jc_resolve.specs.Imports.{imports_after, imports_met}
use Rattle.jc_resolve.proofs.imports.imports_met.Given as goal

abbrev pub invariant-packages : goal.invariant-packages
invariant-packages l =
    (l.met.items ++ imports_after l.packages l.k (packages_left l.package-iterator) ≡ imports_met l.packages)
    × (l.k + length (packages_left l.package-iterator) ≡ length l.packages)
