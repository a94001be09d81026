use Rattle.capcheck_core.proofs.Packs.{counts_blocks}
use Rattle.capcheck_core.proofs.packing.block_count.Goals as goal

pub returns : goal.returns
returns c = counts_blocks c.args.stream.now
