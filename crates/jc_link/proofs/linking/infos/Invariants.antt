use Rattle.std.proofs.Common.{◌≡◌, ◌≤◌, ◌++◌, length}
use Rattle.std.specs.Prelude.{All}
use Rattle.cap_package.specs.PackagesLeft.{packages_left}
use Rattle.jc_resolve.specs.Named.{infos_of}
use Rattle.jc_link.proofs.linking.infos.Given as goal

abbrev pub invariant-packages : goal.invariant-packages
invariant-packages l =
    record { are : l.infos ++ infos_of (packages_left l.package-iterator) ≡ infos_of l.packages; few : All (λ info. length info ≤ 65535) l.infos }
