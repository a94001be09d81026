use Rattle.xf_layout.proofs.Agreeing.{plain-sizes-agree}
use Rattle.xf_layout.proofs.laws.plain_sizes_agree.Goals as goal

pub returns : goal.returns
returns c = plain-sizes-agree
