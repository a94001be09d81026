use Rattle.jc_control.proofs.Closing.{instructions-are-placed}
use Rattle.jc_control.proofs.laws.instructions_are_placed.Goals as goal

pub returns : goal.returns
returns c = instructions-are-placed c.instructions_are_listed.ensures
