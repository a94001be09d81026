use Rattle.std.proofs.Common.{◌+◌, ◌*◌, ◌<◌, length, arith}
use Rattle.vm_store.proofs.Fills.{filled_ints-more}
use Rattle.vm_store.proofs.fill.fill_ints.Goals as goal

pub cells-preserved : goal.cells-preserved
cells-preserved g c =
    let room : c.args.from + 2 * c.cells.n + 1 < length c.args.cells.now = omega arith in
    filled_ints-more c.args.cells.now c.cells.cells c.args.from c.cells.n c.args.high c.args.low c.cells.invariant room
