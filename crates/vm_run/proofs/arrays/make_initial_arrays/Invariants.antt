use Rattle.std.proofs.Common.{◌≡◌, take}
use Rattle.std.specs.Prelude.{map}
use Rattle.vm_step.specs.Start.{initial_object}
use Rattle.vm_run.proofs.arrays.make_initial_arrays.Given as goal

abbrev pub invariant-arrays : goal.invariant-arrays
invariant-arrays g l = record {
  state : g.S.Store.state l.store
      ≡ record (g.S.Store.state l.fn.store) { heap = map (initial_object g.S.Cell.CellForm.cells) (take l.n l.world.arrays) };
  well : g.S.Store.well l.store;
  fixed : g.S.Store.fixed l.store ≡ g.S.Store.fixed l.fn.store;
}
