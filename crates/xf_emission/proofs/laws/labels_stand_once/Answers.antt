use Rattle.xf_emission.proofs.Once.{labels-stand-once}
use Rattle.xf_emission.proofs.laws.labels_stand_once.Goals as goal

pub returns : goal.returns
returns c = labels-stand-once
