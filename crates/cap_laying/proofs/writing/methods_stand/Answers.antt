use Rattle.cap_laying.proofs.Standing.{methods_stand}
use Rattle.cap_laying.proofs.writing.methods_stand.Goals as goal

pub returns : goal.returns
returns c = methods_stand
