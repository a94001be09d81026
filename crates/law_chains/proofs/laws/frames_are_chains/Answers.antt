use Rattle.law_chains.proofs.Called.{only-called-methods-run}
use Rattle.law_chains.proofs.Stacking.{runs-keep-to-calls}
use Rattle.law_chains.proofs.laws.frames_are_chains.Goals as goal

pub returns-clause-called : goal.returns-clause-called
returns-clause-called c = only-called-methods-run c.args.world.now c.classes.ensures.links

pub returns-clause-runs : goal.returns-clause-runs
returns-clause-runs c = runs-keep-to-calls c.args.world.now c.classes.ensures.links
