use Rattle.vm_offend.proofs.Windows.{dropped, dropped_fits}
use Rattle.vm_offend.proofs.window.discard.Goals as goal

pub returns-clause-frame : goal.returns-clause-frame
returns-clause-frame c = dropped c.args.world.now.methods c.args.window.now c.requires.len c.requires.fits c.args.count c.requires.there

pub returns-clause-fits : goal.returns-clause-fits
returns-clause-fits c = dropped_fits c.args.world.now.methods c.args.window.now c.requires.len c.requires.fits c.args.count c.requires.there
