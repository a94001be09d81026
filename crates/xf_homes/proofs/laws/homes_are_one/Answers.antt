use Rattle.xf_homes.proofs.OneList.{homes-are-one}
use Rattle.xf_homes.proofs.laws.homes_are_one.Goals as goal

pub returns : goal.returns
returns c = homes-are-one c.args.world.now
