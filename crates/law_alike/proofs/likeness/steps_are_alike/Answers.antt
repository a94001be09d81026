use Rattle.law_alike.proofs.Together.{steps-are-alike}
use Rattle.law_alike.proofs.likeness.steps_are_alike.Goals as goal

pub returns : goal.returns
returns c =
    steps-are-alike c.args.world.now c.classes.ensures.links c.operations_are_sound.ensures.sound c.operations_are_sound.ensures.decided
