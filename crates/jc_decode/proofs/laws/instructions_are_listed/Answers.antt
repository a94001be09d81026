use Rattle.jc_decode.proofs.InstructionLists.{all-are-listed}
use Rattle.jc_decode.proofs.laws.instructions_are_listed.Goals as goal

pub returns : goal.returns
returns c = all-are-listed
