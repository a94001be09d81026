use Rattle.std.proofs.Common.{◌≡◌, ◌≤◌, ◌+◌, drop, length}
use Rattle.cap_laying.specs.Blocks.{put_indexes, total_handlers}
use Rattle.cap_laying.specs.Member.{AreWithin}
use Rattle.cap_laying.proofs.blocks.indexes.Given as goal

abbrev pub invariant-members : goal.invariant-members
invariant-members l = record {
  within : AreWithin l.size (drop l.block-index l.blocks);
  long : length l.indexes.items ≡ l.size;
  few : l.before + total_handlers (drop l.block-index l.blocks) ≤ 255;
  so_far : put_indexes l.indexes.items l.before (drop l.block-index l.blocks) ≡ put_indexes l.initial.indexes.items 0 l.blocks;
}
