use Rattle.std.proofs.Common.{arith}
use Rattle.std.proofs.lemmas.Grind.{common_steps}
use Rattle.cap_laying.proofs.SmallEntries.{small_first}
use Rattle.cap_laying.proofs.blocks.put_table.Goals as goal

pub members-preserved : goal.members-preserved
members-preserved c = record {
  placed = grind (arith, common_steps);
  so_far = grind (arith, common_steps);
  small = λ rest. c.members.invariant.small
      (small_first c.args.news.now c.args.blocks.now c.members.block-index c.offset.result c.block-item.result c.members-test.true c.block-item.is
      c.offset.ensures c.in_ok-put_block.ensures.small rest);
}
