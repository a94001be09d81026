use Rattle.vm_offend.proofs.Windows.{register_is}
use Rattle.vm_offend.proofs.window.register.Goals as goal

pub returns : goal.returns
returns c = register_is c.args.world.now.methods c.args.window.now c.requires.len c.requires.fits c.args.x c.requires.there
