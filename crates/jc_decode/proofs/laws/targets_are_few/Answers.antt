use Rattle.jc_decode.proofs.FewTargets.{targets-few}
use Rattle.jc_decode.proofs.laws.targets_are_few.Goals as goal

pub returns : goal.returns
returns c = targets-few
