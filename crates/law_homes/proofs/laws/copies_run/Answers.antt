use Rattle.law_homes.proofs.Going.{operations-go-on, copies-run}
use Rattle.law_homes.proofs.laws.copies_run.Goals as goal

pub returns-clause-on : goal.returns-clause-on
returns-clause-on c = operations-go-on c.args.world.now c.classes.ensures.links.chains

pub returns-clause-copies : goal.returns-clause-copies
returns-clause-copies c = copies-run c.args.world.now c.classes.ensures.links.chains
