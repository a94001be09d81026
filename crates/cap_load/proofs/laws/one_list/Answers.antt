use Rattle.cap_load.proofs.Streams.{one_list}
use Rattle.cap_load.proofs.laws.one_list.Goals as goal

pub returns : goal.returns
returns c = one_list
