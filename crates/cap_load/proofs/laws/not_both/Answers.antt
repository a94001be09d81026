use Rattle.cap_load.proofs.Streams.{not_both}
use Rattle.cap_load.proofs.laws.not_both.Goals as goal

pub returns : goal.returns
returns c = not_both
