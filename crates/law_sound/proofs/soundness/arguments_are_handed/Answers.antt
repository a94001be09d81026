use Rattle.law_sound.proofs.Handed.{only-calls-call, calls-hand-all}
use Rattle.law_sound.proofs.Starting.{starts-hand-all}
use Rattle.law_sound.proofs.soundness.arguments_are_handed.Goals as goal

pub returns-clause-only : goal.returns-clause-only
returns-clause-only c = only-calls-call c.args.world.now

pub returns-clause-calls : goal.returns-clause-calls
returns-clause-calls c = calls-hand-all c.args.world.now c.classes.ensures.links

pub returns-clause-starts : goal.returns-clause-starts
returns-clause-starts c = starts-hand-all c.args.world.now c.classes.ensures.links
