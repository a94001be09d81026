-- The packages that are left, when some are gone over in their order.
use Rattle.std.specs.Prelude.{List, drop}
use Rattle.cap_package.specs.declared.packages.PackagesIter.{PackagesIter}
use Rattle.cap_package.specs.PackageRecord.{PackageRecord}

abbrev pub packages_left : PackagesIter → List PackageRecord
packages_left x = drop x.given x.packages.now
