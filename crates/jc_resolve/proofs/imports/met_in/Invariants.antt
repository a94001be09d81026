use Rattle.std.proofs.Common.{◌≡◌, ◌++◌, map}
use Rattle.cap_frame.specs.Packages.{packages_left as imports_left}
use Rattle.cap_package.specs.PackagesLeft.{packages_left}
use Rattle.jc_resolve.specs.Imports.{first_meeting}
use Rattle.jc_resolve.proofs.imports.met_in.Given as goal

abbrev pub invariant-imports : goal.invariant-imports
invariant-imports l =
    l.met.items ++ map (first_meeting (packages_left l.packages)) (imports_left l.asked-iterator) ≡ map (first_meeting (packages_left l.packages))
    (imports_left l.fn.imports)
