-- The record of the Header component, as its items.
use Rattle.cap_frame.specs.declared.header_record.Header.{Header}
use Rattle.cap_frame.specs.HeaderFormat.{HeaderItems}
use Rattle.cap_frame.specs.Packages.{package_seen}

abbrev pub header_items : Header → HeaderItems
header_items x = record { format = x.format; flags = x.flags.0; package_of = package_seen x.package; name = x.name.now }
