use Rattle.xf_layout.proofs.Sizes.{one-shortest}
use Rattle.xf_layout.proofs.laws.shortest_is_one.Goals as goal

pub returns : goal.returns
returns c = one-shortest
