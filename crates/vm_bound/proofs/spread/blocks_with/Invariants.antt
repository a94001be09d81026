use Rattle.std.proofs.Common.{◌≡◌, length}
use Rattle.vm_bound.specs.Blocks.{AreAllBlocks}
use Rattle.vm_bound.proofs.spread.blocks_with.Given as goal

abbrev pub invariant-interfaces : goal.invariant-interfaces
invariant-interfaces l = record {
  long : length l.all.items ≡ l.interface;
  blocks : AreAllBlocks l.world.classes l.order l.all.items;
}
