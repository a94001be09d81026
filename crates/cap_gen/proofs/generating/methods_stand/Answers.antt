use Rattle.cap_gen.proofs.Placed.{methods_stand}
use Rattle.cap_gen.proofs.generating.methods_stand.Goals as goal

pub returns : goal.returns
returns c = methods_stand
