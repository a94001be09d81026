use Rattle.std.proofs.Common.{◌≡◌, take}
use Rattle.jc_classes.specs.Tables.{methods_listed}
use Rattle.jc_classes.proofs.building.methods_listed.Given as goal

abbrev pub invariant-entries : goal.invariant-entries
invariant-entries l = l.list.items ≡ methods_listed (take l.entry-index l.entries)
