use Rattle.vm_offend.proofs.WordsFollow.{are-verified}
use Rattle.vm_offend.proofs.word_machine.WordStoreTurning.steps_stand.Goals as goal

pub returns-clause-verified : goal.returns-clause-verified
returns-clause-verified c =
    are-verified c.args.world.now c.classes-classes.ensures.links c.states_erase.ensures c.typed_code_never_fails.ensures.steps
    c.tests_suffice.ensures.reaches c.tests_suffice.ensures.known
    c.words_run_alike.ensures.acts
