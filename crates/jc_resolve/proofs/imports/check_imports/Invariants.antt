use Rattle.std.proofs.Common.{◌≡◌, ◌+◌, length}
use Rattle.jc_resolve.specs.Fault.{link_place}
use Rattle.first_fault.specs.Least.{least_from, least_of}
use Rattle.cap_package.specs.PackagesLeft.{packages_left}
use Rattle.jc_resolve.specs.Conditions.{no_package_fault, import_tokens, named_after, named_in}
use Rattle.jc_resolve.proofs.imports.check_imports.Given as goal

abbrev pub invariant-packages : goal.invariant-packages
invariant-packages l =
    (least_from link_place l.least (no_package_fault l.packages) (named_after import_tokens l.k (packages_left l.package-iterator))
    ≡ least_of link_place (no_package_fault l.packages) (named_in import_tokens l.packages))
    × (l.k + length (packages_left l.package-iterator) ≡ length l.packages)
