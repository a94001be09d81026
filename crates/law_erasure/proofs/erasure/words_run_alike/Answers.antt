use Rattle.law_erasure.proofs.Acts.{acts-erase}
use Rattle.law_erasure.proofs.Starts.{starts-erase}
use Rattle.law_erasure.proofs.Steps.{steps-erase, runs-erase}
use Rattle.law_erasure.proofs.Together.{words-follow, typed-steps-follow, typed-runs-follow}
use Rattle.law_erasure.proofs.erasure.words_run_alike.Goals as goal

pub returns-clause-acts : goal.returns-clause-acts
returns-clause-acts c = acts-erase c.args.world.now

pub returns-clause-steps : goal.returns-clause-steps
returns-clause-steps c = steps-erase c.args.world.now

pub returns-clause-runs : goal.returns-clause-runs
returns-clause-runs c = runs-erase c.args.world.now

pub returns-clause-starts : goal.returns-clause-starts
returns-clause-starts c = starts-erase c.args.world.now

pub returns-clause-follow : goal.returns-clause-follow
returns-clause-follow c = words-follow c.args.world.now c.classes.ensures.links c.operations_are_sound.ensures.decided

pub returns-clause-steps_follow : goal.returns-clause-steps_follow
returns-clause-steps_follow c = typed-steps-follow c.args.world.now c.classes.ensures.links c.operations_are_sound.ensures.decided

pub returns-clause-runs_follow : goal.returns-clause-runs_follow
returns-clause-runs_follow c = typed-runs-follow c.args.world.now c.classes.ensures.links c.operations_are_sound.ensures.decided
