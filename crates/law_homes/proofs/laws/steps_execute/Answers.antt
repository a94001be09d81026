use Rattle.law_homes.proofs.Standing.{can-run, steps-execute}
use Rattle.law_homes.proofs.laws.steps_execute.Goals as goal

pub returns : goal.returns
returns c = steps-execute c.args.world.now (can-run c.args.world.now c.classes.ensures.links c.operations_are_sound.ensures.sound)
