use Rattle.cap_gen.proofs.Standing.{parts_stand}
use Rattle.cap_gen.proofs.generating.parts_stand.Goals as goal

pub returns : goal.returns
returns c = parts_stand
