use Rattle.vm_tests.proofs.Made.{made_cells}
use Rattle.vm_tests.proofs.stores.make.Goals as goal

pub returns-clause-cells : goal.returns-clause-cells
returns-clause-cells g c = made_cells g.S.Cell.CellForm.cells _ _ c.args.kind c.args.count _ c.make_array.ensures.state c.make_array.ensures.handle
