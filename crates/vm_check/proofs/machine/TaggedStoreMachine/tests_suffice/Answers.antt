use Rattle.vm_step.specs.Raising.{running, ended}
use Rattle.vm_check.proofs.Sufficing.{keeps-shape, knows-types, tests-reach}
use Rattle.vm_check.proofs.Settling.{step-good}
use Rattle.vm_check.proofs.machine.TaggedStoreMachine.tests_suffice.Goals as goal

pub returns-clause-shape : goal.returns-clause-shape
returns-clause-shape c = keeps-shape c.args.world.now

pub returns-clause-known : goal.returns-clause-known
returns-clause-known c = knows-types c.args.world.now c.classes-classes.ensures.links

pub returns-clause-reaches : goal.returns-clause-reaches
returns-clause-reaches c = tests-reach c.args.world.now c.classes-classes.ensures.links c.demands_are_decided.ensures c.operations_are_sound.ensures.sound

pub returns-clause-stays : goal.returns-clause-stays
returns-clause-stays c = λ s z kept step.
    step-good c.args.world.now c.classes-classes.ensures.links c.classes-classes.ensures.dispatch c.demands_are_decided.ensures
    c.operations_are_sound.ensures.sound s (running z) kept step

pub returns-clause-ends : goal.returns-clause-ends
returns-clause-ends c = λ s z e kept step.
    step-good c.args.world.now c.classes-classes.ensures.links c.classes-classes.ensures.dispatch c.demands_are_decided.ensures
    c.operations_are_sound.ensures.sound s (ended e z) kept step
