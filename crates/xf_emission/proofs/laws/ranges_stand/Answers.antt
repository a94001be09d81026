use Rattle.xf_emission.proofs.Ranged.{ranges-stand}
use Rattle.xf_emission.proofs.laws.ranges_stand.Goals as goal

pub returns : goal.returns
returns c = ranges-stand c.instructions_are_listed.ensures
