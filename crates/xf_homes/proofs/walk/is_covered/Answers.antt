use Rattle.xf_homes.proofs.Steps.{covers-is}
use Rattle.xf_homes.proofs.walk.is_covered.Goals as goal

pub returns : goal.returns
returns c = covers-is c.args.handler c.args.place c.covers.result c.covers.ensures
