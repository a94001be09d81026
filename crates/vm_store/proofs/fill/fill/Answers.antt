use Rattle.std.proofs.Common.{◌+◌, ◌<◌, length, arith}
use Rattle.vm_store.proofs.Fills.{filled-more}
use Rattle.vm_store.proofs.fill.fill.Goals as goal

pub cells-preserved : goal.cells-preserved
cells-preserved g c =
    let room : c.args.from + c.cells.n < length c.args.cells.now = omega arith in
    filled-more c.args.cells.now c.cells.cells c.args.from c.cells.n c.args.cell c.cells.invariant room
