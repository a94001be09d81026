use Rattle.law_relink.proofs.Conditions.{conditions_same}
use Rattle.law_relink.proofs.world_again.name_conditions_stay.Goals as goal

pub returns : goal.returns
returns c = conditions_same
