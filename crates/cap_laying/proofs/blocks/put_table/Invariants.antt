use Rattle.std.proofs.Common.{◌≡◌, ◌++◌, drop}
use Rattle.cap_laying.specs.Blocks.{ArePlacedBodies, entries_of_blocks}
use Rattle.cap_laying.specs.HandlerTable.{table_bytes}
use Rattle.cap_laying.specs.MethodInfo.{AreSmallEntries}
use Rattle.cap_laying.proofs.blocks.put_table.Given as goal

abbrev pub invariant-members : goal.invariant-members
invariant-members l = record {
  placed : ArePlacedBodies l.news (drop l.block-index l.blocks);
  so_far : l.out.items ++ table_bytes (entries_of_blocks l.news (drop l.block-index l.blocks)) ≡ l.initial.out.items ++ table_bytes
      (entries_of_blocks l.news l.blocks);
  small : AreSmallEntries (entries_of_blocks l.news (drop l.block-index l.blocks)) → AreSmallEntries (entries_of_blocks l.news l.blocks);
}
