use Rattle.std.proofs.Common.{take}
use Rattle.jc_classes.specs.Groups.{AreGroups}
use Rattle.jc_classes.proofs.groups.groups.Given as goal

abbrev pub invariant-methods : goal.invariant-methods
invariant-methods l = AreGroups l.count (take l.method-index l.methods) l.groups.items
