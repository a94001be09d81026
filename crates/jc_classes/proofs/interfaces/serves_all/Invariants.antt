use Rattle.std.proofs.Common.{◌≡◌, ◌-◌, drop, length}
use Rattle.std.specs.List.{list_all}
use Rattle.jc_classes.specs.TableConditions.{serves}
use Rattle.jc_classes.proofs.interfaces.serves_all.Given as goal

abbrev pub invariant-methods : goal.invariant-methods
invariant-methods l = list_all (serves l.methods l.public l.iface) (drop l.i l.group) ≡ list_all (serves l.methods l.public l.iface) l.group

abbrev pub decreases-methods : goal.decreases-methods
decreases-methods l = length l.group - l.i
