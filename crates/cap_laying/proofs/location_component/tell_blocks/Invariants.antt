use Rattle.std.proofs.Common.{◌≡◌, ◌≤◌, ◌+◌, ◌*◌, ◌++◌, drop}
use Rattle.cap_laying.specs.Distances.{distances, last_of}
use Rattle.cap_laying.specs.Telling.{IsFew}
use Rattle.cap_laying.specs.Blocks.{total_handlers}
use Rattle.cap_laying.specs.References.{block_catches}
use Rattle.cap_laying.proofs.location_component.tell_blocks.Given as goal

abbrev pub invariant-members : goal.invariant-members
invariant-members l = record {
  end : l.at + 8 * total_handlers (drop l.block-index l.blocks) ≡ 1 + 8 * total_handlers l.blocks;
  order : l.told.last ≤ l.at;
  few : IsFew l.told;
  bytes : l.told.bytes.items ++ distances l.told.last (block_catches l.at (drop l.block-index l.blocks)) ≡ l.initial.told.bytes.items ++ distances
      l.initial.told.last (block_catches 1 l.blocks);
  last : last_of l.told.last (block_catches l.at (drop l.block-index l.blocks)) ≡ last_of l.initial.told.last (block_catches 1 l.blocks);
}
