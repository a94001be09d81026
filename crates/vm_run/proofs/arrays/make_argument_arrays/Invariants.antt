use Rattle.std.proofs.Common.{◌≡◌, drop, length}
use Rattle.std.specs.Prelude.{None, map}
use Rattle.vm_store.specs.Objects.{heap_cells}
use Rattle.vm_step.specs.Arguments.{argument_of}
use Rattle.vm_step.specs.Start.{with_arrays, first_without_room}
use Rattle.vm_run.proofs.arrays.make_argument_arrays.Given as goal

abbrev pub invariant-each : goal.invariant-each
invariant-each g l = record {
  state : with_arrays g.S.Cell.CellForm.cells (map argument_of (drop l.arg-index l.arg-items)) (g.S.Store.state l.store)
      ≡ with_arrays g.S.Cell.CellForm.cells l.args (g.S.Store.state l.fn.store);
  room : first_without_room l.arg-index (length (g.S.Store.state l.store).heap) (heap_cells (g.S.Store.state l.store))
      (map argument_of (drop l.arg-index l.arg-items))
      ≡ None;
  well : g.S.Store.well l.store;
  fixed : g.S.Store.fixed l.store ≡ g.S.Store.fixed l.fn.store;
}
