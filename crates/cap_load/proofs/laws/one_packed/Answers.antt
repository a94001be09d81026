use Rattle.cap_load.proofs.OneFile.{one_packed}
use Rattle.cap_load.proofs.laws.one_packed.Goals as goal

pub returns : goal.returns
returns c = one_packed
