use Rattle.jc_control.proofs.FlawLaws.{first-flaw-is-one}
use Rattle.jc_control.proofs.laws.first_flaw_is_one.Goals as goal

pub returns : goal.returns
returns c = first-flaw-is-one c.instructions_are_listed.ensures
