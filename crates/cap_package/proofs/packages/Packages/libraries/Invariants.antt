use Rattle.std.proofs.Common.{◌≡◌, ◌++◌, drop}
use Rattle.cap_package.proofs.packages.Packages.libraries.Given as goal

abbrev pub invariant-packages : goal.invariant-packages
invariant-packages l = l.libraries ++ drop l.package-index l.kept ≡ l.kept
