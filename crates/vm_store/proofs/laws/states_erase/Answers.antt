use Rattle.vm_store.proofs.Erasing.{states-erase}
use Rattle.vm_store.proofs.laws.states_erase.Goals as goal

pub returns : goal.returns
returns c = states-erase c.args.world.now.methods c.args.world.now.classes
