use Rattle.law_groups.proofs.Kept.{kept-runs}
use Rattle.law_groups.proofs.laws.kept_run.Goals as goal

pub returns : goal.returns
returns c =
    kept-runs c.args.world.now c.classes.ensures.links c.operations_are_sound.ensures.sound c.steps_are_alike.ensures
