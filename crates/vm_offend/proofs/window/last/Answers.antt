use Rattle.vm_offend.proofs.Windows.{last_is}
use Rattle.vm_offend.proofs.window.last.Goals as goal

pub returns : goal.returns
returns c = last_is c.args.world.now.methods c.args.window.now c.requires.len c.requires.fits c.args.count c.requires.there
