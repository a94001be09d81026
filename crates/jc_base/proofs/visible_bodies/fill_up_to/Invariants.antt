use Rattle.std.proofs.Common.{length}
use Rattle.jc_base.proofs.Filling.{IsDescent}
use Rattle.jc_base.proofs.visible_bodies.fill_up_to.Given as goal

abbrev pub invariant-descent : goal.invariant-descent
invariant-descent l = IsDescent l.classes l.methods l.initial.slots.items l.slots.items l.fn.c l.path.items

abbrev pub decreases-descent : goal.decreases-descent
decreases-descent l = length l.path.items
