use Rattle.xf_homes.proofs.Serving.{homes-serve}
use Rattle.xf_homes.proofs.laws.homes_serve.Goals as goal

pub returns : goal.returns
returns c = homes-serve c.types_are_ordered.ensures.same c.args.world.now
