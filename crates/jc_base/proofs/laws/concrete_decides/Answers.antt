use Rattle.jc_base.proofs.Concreteness.{concrete-decides}
use Rattle.jc_base.proofs.laws.concrete_decides.Goals as goal

pub returns : goal.returns
returns c = concrete-decides
