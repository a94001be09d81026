use Rattle.vm_offend.proofs.Windows.{depth_is}
use Rattle.vm_offend.proofs.window.depth.Goals as goal

pub returns : goal.returns
returns c = depth_is c.args.world.now.methods c.args.window.now c.requires.len c.requires.fits
