-- A custom component as a value of the program.
use Rattle.cap_package.specs.declared.packages.Custom.{Custom}
use Rattle.cap_package.specs.Customs.{CustomItems}

abbrev pub custom_items : Custom → CustomItems
custom_items c = record { aid = c.aid.now; info = c.info.bytes.now }
