use Rattle.law_chains.proofs.Bounding.{chains-bound-runs}
use Rattle.law_chains.proofs.laws.chains_bound_runs.Goals as goal

pub returns : goal.returns
returns c = chains-bound-runs c.args.world.now c.classes.ensures.links
