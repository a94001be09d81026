use Rattle.jc_ops.proofs.Soundness.{operations-are-sound}
use Rattle.jc_ops.proofs.Deciding.{operations-are-decided}
use Rattle.jc_ops.proofs.Entries.{refuses-abstract}
use Rattle.jc_ops.proofs.laws.operations_are_sound.Goals as goal

pub returns-clause-sound : goal.returns-clause-sound
returns-clause-sound c =
    operations-are-sound c.args.world.now c.classes-classes.ensures.links
    (c.concrete_decides.ensures c.args.world.now.classes c.args.world.now.methods)

pub returns-clause-decided : goal.returns-clause-decided
returns-clause-decided c = operations-are-decided c.args.world.now

pub returns-clause-refused : goal.returns-clause-refused
returns-clause-refused c = refuses-abstract c.args.world.now (c.concrete_decides.ensures c.args.world.now.classes c.args.world.now.methods)
