use Rattle.std.proofs.Common.{◌≡◌, ◌≤◌, ◌+◌, drop, length}
use Rattle.std.specs.Prelude.{filter, None}
use Rattle.vm_store.specs.State.{IsRunning, top, with_top}
use Rattle.vm_store.specs.Layout.{overwritten}
use Rattle.vm_step.specs.Start.{cells_handed, first_misfit, is_parameter}
use Rattle.vm_run.proofs.frame.hand_arguments.Given as goal

abbrev pub invariant-types : goal.invariant-types
invariant-types g l = record {
  going : IsRunning (g.S.Store.state l.store);
  frame : g.S.Store.state l.store
      ≡ with_top
      (g.S.Store.state l.fn.store)
      (record (top (g.S.Store.state l.fn.store)) { registers = (top (g.S.Store.state l.store)).registers });
  size : length (top (g.S.Store.state l.store)).registers ≡ length (top (g.S.Store.state l.fn.store)).registers;
  written : overwritten
      (top (g.S.Store.state l.store)).registers
      l.x
      (cells_handed g.S.Cell.CellForm.cells l.made (drop l.n l.args) (filter is_parameter (drop l.ty-index l.types)))
      ≡ overwritten
      (top (g.S.Store.state l.fn.store)).registers
      0
      (cells_handed g.S.Cell.CellForm.cells l.fn.objects l.args (filter is_parameter l.types));
  room : l.x + length (cells_handed g.S.Cell.CellForm.cells l.made (drop l.n l.args) (filter is_parameter (drop l.ty-index l.types)))
      ≡ length l.types;
  count : length (drop l.n l.args) ≡ length (filter is_parameter (drop l.ty-index l.types));
  fit : first_misfit l.n (drop l.n l.args) (filter is_parameter (drop l.ty-index l.types)) ≡ None;
  handles : l.made ≤ l.fn.objects + l.n;
  some : l.n ≤ length l.args;
  well : g.S.Store.well l.store;
  fixed : g.S.Store.fixed l.store ≡ g.S.Store.fixed l.fn.store;
}
