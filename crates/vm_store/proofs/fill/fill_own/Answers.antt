use Rattle.std.proofs.Common.{ap, ◌∙◌}
use Rattle.vm_store.specs.Cells.{zero_cell}
use Rattle.vm_store.proofs.Instances.{zeros-more}
use Rattle.vm_store.proofs.fill.fill_own.Goals as goal

pub types-preserved : goal.types-preserved
types-preserved g c =
    zeros-more g.C.CellForm.cells c.args.cells.now c.types.cells c.args.types.now c.args.from c.types.n c.zero.result _ c.types.invariant c.types-test.true
    c.requires
    (c.zero.ensures ∙ ap (zero_cell g.C.CellForm.cells) c.cell_kind.ensures)
