use Rattle.vm_store.specs.Cells.{tagged, words}
use Rattle.vm_step.proofs.Running.{steps-one, steps-exist, continues-one, continues-on}
use Rattle.vm_step.proofs.laws.runs_are_runs_of_steps.Goals as goal

pub returns-clause-tagged_steps : goal.returns-clause-tagged_steps
returns-clause-tagged_steps c = steps-one tagged c.args.world.now c.operations_are_sound.ensures.decided

pub returns-clause-tagged_exist : goal.returns-clause-tagged_exist
returns-clause-tagged_exist c = steps-exist c.args.world.now

pub returns-clause-tagged_runs : goal.returns-clause-tagged_runs
returns-clause-tagged_runs c = continues-one tagged c.args.world.now (steps-one tagged c.args.world.now c.operations_are_sound.ensures.decided)

pub returns-clause-tagged_on : goal.returns-clause-tagged_on
returns-clause-tagged_on c = continues-on tagged c.args.world.now

pub returns-clause-word_steps : goal.returns-clause-word_steps
returns-clause-word_steps c = steps-one words c.args.world.now c.operations_are_sound.ensures.decided

pub returns-clause-word_runs : goal.returns-clause-word_runs
returns-clause-word_runs c = continues-one words c.args.world.now (steps-one words c.args.world.now c.operations_are_sound.ensures.decided)

pub returns-clause-word_on : goal.returns-clause-word_on
returns-clause-word_on c = continues-on words c.args.world.now
