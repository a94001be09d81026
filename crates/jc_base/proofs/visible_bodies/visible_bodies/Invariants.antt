use Rattle.jc_base.specs.ByClass.{AreFilledBelow}
use Rattle.jc_base.proofs.visible_bodies.visible_bodies.Given as goal

abbrev pub invariant-classes : goal.invariant-classes
invariant-classes l = AreFilledBelow l.classes l.methods l.slots.items l.c
