-- The record of the Import component, as its items.
use Rattle.std.specs.Prelude.{List}
use Rattle.cap_frame.specs.declared.import_record.Imports.{Imports}
use Rattle.cap_frame.specs.PackageFormat.{Package}
use Rattle.cap_frame.specs.Packages.{packages_left}

abbrev pub packages : Imports → List Package
packages x = packages_left x.packages
