-- The records of packages, as the items of the format.
use Rattle.std.specs.Prelude.{List, []}
use Rattle.cap_bytes.specs.Grammar.{repeat}
use Rattle.cap_bytes.specs.Taking.{given}
use Rattle.cap_frame.specs.declared.header_record.PackageInfo.{PackageInfo}
use Rattle.cap_frame.specs.declared.lists.PackageInfos.{PackageInfos}
use Rattle.cap_frame.specs.PackageFormat.{Package, package_info}

abbrev pub package_seen : PackageInfo → Package
package_seen p = record { minor = p.minor; major = p.major; aid = p.aid.now }

abbrev pub packages_left : PackageInfos → List Package
packages_left x = given [] (repeat x.left package_info) x.items
