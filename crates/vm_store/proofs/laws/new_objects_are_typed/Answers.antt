use Rattle.std.proofs.Common.{length}
use Rattle.vm_store.proofs.NewObjects.{new-instances, new-arrays}
use Rattle.vm_store.proofs.laws.new_objects_are_typed.Goals as goal

pub returns-clause-instances : goal.returns-clause-instances
returns-clause-instances c =
    let w = c.args.world.now in
    new-instances w.classes (length w.infos) w.methods c.classes.ensures.links.classes

pub returns-clause-arrays : goal.returns-clause-arrays
returns-clause-arrays c = new-arrays c.args.world.now.classes
