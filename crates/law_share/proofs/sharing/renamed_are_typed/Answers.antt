use Rattle.law_share.proofs.Carried.{renamed-are-typed}
use Rattle.law_share.proofs.sharing.renamed_are_typed.Goals as goal

pub returns : goal.returns
returns c =
    renamed-are-typed c.args.world.now c.classes.ensures.links c.operations_are_sound.ensures.sound c.operations_are_kept.ensures.operations
    c.operations_are_kept.ensures.demands c.typings_are_kept.ensures.card c.renumbered_apply.ensures
