use Rattle.vm_offend.proofs.Windows.{registered, registered_fits}
use Rattle.vm_offend.proofs.window.set_register.Goals as goal

pub returns-clause-frame : goal.returns-clause-frame
returns-clause-frame c = registered c.args.world.now.methods c.args.window.now c.requires.len c.requires.fits c.args.x c.args.cell c.requires.there

pub returns-clause-fits : goal.returns-clause-fits
returns-clause-fits c = registered_fits c.args.world.now.methods c.args.window.now c.requires.len c.requires.fits c.args.x c.args.cell c.requires.there
