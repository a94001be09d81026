use Rattle.law_sound.proofs.TypingsByNumber.{methods-have-typings}
use Rattle.law_sound.proofs.Starting.{starts-are-typed}
use Rattle.law_sound.proofs.Sound.{steps-are-safe, runs-are-safe, typed-is-fault-free}
use Rattle.law_sound.proofs.soundness.typed_code_never_fails.Goals as goal

pub returns-clause-typings : goal.returns-clause-typings
returns-clause-typings c = methods-have-typings c.args.world.now

pub returns-clause-steps : goal.returns-clause-steps
returns-clause-steps c = steps-are-safe c.args.world.now c.classes.ensures.links

pub returns-clause-runs : goal.returns-clause-runs
returns-clause-runs c = runs-are-safe c.args.world.now c.classes.ensures.links

pub returns-clause-starts : goal.returns-clause-starts
returns-clause-starts c = starts-are-typed c.args.world.now c.classes.ensures.links

pub returns-clause-fault_free : goal.returns-clause-fault_free
returns-clause-fault_free c = typed-is-fault-free c.args.world.now c.classes.ensures.links
