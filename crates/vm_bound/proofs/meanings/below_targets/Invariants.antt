use Rattle.std.proofs.Common.{take}
use Rattle.vm_bound.proofs.Targeting.{AreEntriesOf}
use Rattle.vm_bound.proofs.meanings.below_targets.Given as goal

abbrev pub invariant-subclasses : goal.invariant-subclasses
invariant-subclasses l = AreEntriesOf l.world l.class l.token (take l.below-index l.subclasses) l.targets.items
