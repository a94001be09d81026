use Rattle.law_added.proofs.Stay.{typings-stay}
use Rattle.law_added.proofs.added.typings_stay.Goals as goal

pub returns : goal.returns
returns c = typings-stay
