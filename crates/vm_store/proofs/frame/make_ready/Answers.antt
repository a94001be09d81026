use Rattle.std.proofs.Common.{set, get_or, ◌∙◌, ap, arith}
use Rattle.std.proofs.lemmas.List.{get_or_default}
use Rattle.vm_store.specs.Cells.{made_ready}
use Rattle.vm_store.specs.declared.cell.Cell.TheVariants.{Empty}
use Rattle.std.proofs.lemmas.List.Edits.{map_over_more}
use Rattle.vm_store.proofs.frame.make_ready.Goals as goal

pub cells-preserved : goal.cells-preserved
cells-preserved c =
    let held = get_or c.cells.stack c.cells.cell-index Empty in
    ap (set c.cells.stack c.cells.cell-index) c.ready.ensures
    ∙ map_over_more (made_ready c.args.place) c.args.stack.now c.cells.stack c.cells.cell-index held c.cells-test.true c.cells.invariant
    (get_or_default c.cells.stack c.cells.cell-index Empty held (omega arith))
