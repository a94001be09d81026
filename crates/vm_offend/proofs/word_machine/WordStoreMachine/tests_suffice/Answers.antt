use Rattle.vm_offend.proofs.WordsFollow.{keeps-shape, knows-types, tests-reach, steps-stay, steps-end}
use Rattle.vm_offend.proofs.word_machine.WordStoreMachine.tests_suffice.Goals as goal

pub returns-clause-shape : goal.returns-clause-shape
returns-clause-shape c = keeps-shape c.args.world.now

pub returns-clause-known : goal.returns-clause-known
returns-clause-known c = knows-types c.args.world.now

pub returns-clause-reaches : goal.returns-clause-reaches
returns-clause-reaches c =
    tests-reach c.args.world.now c.classes-classes.ensures.links c.states_erase.ensures c.typed_code_never_fails.ensures.steps
    c.tests_suffice.ensures.reaches c.tests_suffice.ensures.known
    c.operations_are_sound.ensures.sound c.footprint_laws.ensures.leaves c.typed_states_apply.ensures

pub returns-clause-stays : goal.returns-clause-stays
returns-clause-stays c =
    steps-stay c.args.world.now c.words_run_alike.ensures.steps_follow c.typed_code_never_fails.ensures.steps c.tests_suffice.ensures.stays

pub returns-clause-ends : goal.returns-clause-ends
returns-clause-ends c =
    steps-end c.args.world.now c.words_run_alike.ensures.steps_follow c.typed_code_never_fails.ensures.steps c.tests_suffice.ensures.ends
