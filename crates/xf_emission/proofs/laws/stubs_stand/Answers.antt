use Rattle.xf_emission.proofs.StubPlaces.{stubs-stand, handlers-stand}
use Rattle.xf_emission.proofs.laws.stubs_stand.Goals as goal

pub returns-clause-branches : goal.returns-clause-branches
returns-clause-branches c = stubs-stand

pub returns-clause-handlers : goal.returns-clause-handlers
returns-clause-handlers c = handlers-stand
