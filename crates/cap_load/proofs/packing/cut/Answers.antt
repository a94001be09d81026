use Rattle.cap_load.proofs.Cuts.{cut_step, cut_end}
use Rattle.cap_load.proofs.packing.cut.Goals as goal

pub cuts-preserved : goal.cuts-preserved
cuts-preserved c = cut_step _ _ _ _ _ _ c.cuts.invariant c.cuts-test.true c.split_at.ensures.front c.split_at.ensures.back c.in_ok-put_block.ensures

pub returns : goal.returns
returns c = cut_end _ _ _ _ c.cuts.invariant c.cuts-test.false c.in_ok-put_end.ensures
