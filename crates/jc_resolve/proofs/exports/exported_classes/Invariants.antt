use Rattle.std.proofs.Common.{◌≡◌, ◌++◌, map}
use Rattle.cap_pool.specs.Export.{exported_class_seen}
use Rattle.cap_package.specs.PackagesLeft.{packages_left}
use Rattle.jc_resolve.specs.Numbers.{exported_classes}
use Rattle.jc_resolve.proofs.exports.exported_classes.Given as goal

abbrev pub invariant-packages : goal.invariant-packages
invariant-packages l = map (map exported_class_seen) l.exports.items ++ exported_classes (packages_left l.package-iterator) ≡ exported_classes l.packages
