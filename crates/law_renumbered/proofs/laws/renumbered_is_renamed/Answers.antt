use Rattle.law_renumbered.proofs.Renamed.{renumbered-is-renamed}
use Rattle.law_renumbered.proofs.laws.renumbered_is_renamed.Goals as goal

pub returns : goal.returns
returns c =
    renumbered-is-renamed c.args.world.now c.classes.ensures.links c.operations_are_sound.ensures.sound c.instructions_are_placed.ensures
