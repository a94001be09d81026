use Rattle.std.proofs.Common.{◌<◌, get_or, arith}
use Rattle.vm_offend.proofs.Windows.{below, pushed, pushed_fits}
use Rattle.vm_offend.proofs.window.push.Goals as goal

pub bounds-window-depth : goal.bounds-window-depth
bounds-window-depth c =
    let d : get_or c.args.window.now 2 0 < 255 =
    below c.args.world.now.methods c.args.window.now c.requires.len c.requires.fits c.args.cell c.requires.room in
    omega (arith, c.requires.len)

pub returns-clause-frame : goal.returns-clause-frame
returns-clause-frame c = pushed c.args.world.now.methods c.args.window.now c.requires.len c.requires.fits c.args.cell c.requires.room

pub returns-clause-fits : goal.returns-clause-fits
returns-clause-fits c = pushed_fits c.args.world.now.methods c.args.window.now c.requires.len c.requires.fits c.args.cell c.requires.room
