use Rattle.jc_classes.proofs.Fills.{AreFilledBelow}
use Rattle.jc_classes.proofs.slots.layouts.Given as goal

abbrev pub invariant-classes : goal.invariant-classes
invariant-classes l = AreFilledBelow l.lineage l.classes l.slots.items l.c
