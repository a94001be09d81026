use Rattle.std.proofs.Common.{length}
use Rattle.jc_classes.proofs.Fills.{IsDescent}
use Rattle.jc_classes.proofs.slots.fill.Given as goal

abbrev pub invariant-descent : goal.invariant-descent
invariant-descent l = IsDescent l.lineage l.classes l.initial.slots.items l.slots.items l.fn.c l.path.items l.above

abbrev pub decreases-descent : goal.decreases-descent
decreases-descent l = length l.path.items
