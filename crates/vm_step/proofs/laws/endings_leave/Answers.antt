use Rattle.vm_store.specs.Cells.{tagged, words}
use Rattle.vm_step.proofs.Ended.{endings-leave, runs-leave}
use Rattle.vm_step.proofs.laws.endings_leave.Goals as goal

pub returns-clause-tagged : goal.returns-clause-tagged
returns-clause-tagged c = endings-leave tagged c.args.world.now

pub returns-clause-tagged_runs : goal.returns-clause-tagged_runs
returns-clause-tagged_runs c = runs-leave tagged c.args.world.now

pub returns-clause-words : goal.returns-clause-words
returns-clause-words c = endings-leave words c.args.world.now

pub returns-clause-word_runs : goal.returns-clause-word_runs
returns-clause-word_runs c = runs-leave words c.args.world.now
