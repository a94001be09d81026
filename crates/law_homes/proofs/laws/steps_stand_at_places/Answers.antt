use Rattle.law_homes.proofs.Standing.{steps-stand-at-places}
use Rattle.law_homes.proofs.laws.steps_stand_at_places.Goals as goal

pub returns : goal.returns
returns c = steps-stand-at-places
