use Rattle.std.proofs.Common.{◌≡◌, take}
use Rattle.jc_classes.specs.Tables.{records_from}
use Rattle.jc_classes.proofs.made_list.build.Given as goal

abbrev pub invariant-classes : goal.invariant-classes
invariant-classes l = l.records.items ≡ take l.c (records_from l.lineage l.classes 0 l.classes)
