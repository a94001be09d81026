use Rattle.law_homes.proofs.Loading.{loads-run}
use Rattle.law_homes.proofs.Stacked.{loaded-is-stack}
use Rattle.law_homes.proofs.Standing.{can-run}
use Rattle.law_homes.proofs.laws.loads_run.Goals as goal

pub returns-clause-run : goal.returns-clause-run
returns-clause-run c = loads-run c.args.world.now (can-run c.args.world.now c.classes.ensures.links c.operations_are_sound.ensures.sound)

pub returns-clause-stack : goal.returns-clause-stack
returns-clause-stack c = loaded-is-stack
