use Rattle.std.proofs.Common.{take}
use Rattle.vm_bound.specs.Rows.{AreBlockTargets}
use Rattle.vm_bound.proofs.meanings.block_targets.Given as goal

abbrev pub invariant-each : goal.invariant-each
invariant-each l = AreBlockTargets l.world l.described (take l.block-index l.blocks) l.targets.items
