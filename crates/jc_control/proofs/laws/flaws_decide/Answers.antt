use Rattle.jc_control.proofs.FlawLaws.{flaws-decide}
use Rattle.jc_control.proofs.laws.flaws_decide.Goals as goal

pub returns : goal.returns
returns c = flaws-decide c.instructions_are_listed.ensures
