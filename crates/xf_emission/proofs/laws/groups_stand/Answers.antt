use Rattle.xf_emission.proofs.GroupPlaces.{groups-stand}
use Rattle.xf_emission.proofs.laws.groups_stand.Goals as goal

pub returns : goal.returns
returns c = groups-stand
