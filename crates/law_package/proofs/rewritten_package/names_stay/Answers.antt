use Rattle.law_package.proofs.Positions.{names_stay}
use Rattle.law_package.proofs.rewritten_package.names_stay.Goals as goal

pub returns : goal.returns
returns c = names_stay
