use Rattle.std.proofs.Common.{◌≡◌}
use Rattle.vm_run.proofs.Elements.{AreIntsFilled}
use Rattle.vm_run.proofs.arrays.make_ints.Given as goal

abbrev pub invariant-ints : goal.invariant-ints
invariant-ints g l = record {
  filled : AreIntsFilled g.S.Cell.CellForm.cells l.words (g.S.Store.state l.fn.store) (g.S.Store.state l.store) l.i;
  well : g.S.Store.well l.store;
  fixed : g.S.Store.fixed l.store ≡ g.S.Store.fixed l.fn.store;
}
