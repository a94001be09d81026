use Rattle.jc_decode.proofs.Labels.{label-between}
use Rattle.jc_decode.proofs.laws.labels_stand_between.Goals as goal

pub returns : goal.returns
returns c = label-between
