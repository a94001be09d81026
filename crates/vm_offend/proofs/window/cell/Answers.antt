use Rattle.vm_offend.proofs.Windows.{cell_is}
use Rattle.vm_offend.proofs.window.cell.Goals as goal

pub returns : goal.returns
returns c = cell_is c.args.world.now.methods c.args.window.now c.requires.len c.requires.fits c.args.n c.requires.there
