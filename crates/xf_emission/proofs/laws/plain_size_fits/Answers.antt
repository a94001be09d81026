use Rattle.xf_emission.proofs.PlainSizes.{plain-size-fits}
use Rattle.xf_emission.proofs.laws.plain_size_fits.Goals as goal

pub returns : goal.returns
returns c = plain-size-fits c.types_are_ordered.ensures.same c.needed_are_kept.ensures c.args.world.now c.homes_serve.ensures
