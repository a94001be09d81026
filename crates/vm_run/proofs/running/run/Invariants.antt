use Rattle.std.proofs.Common.{◌≡◌}
use Rattle.vm_store.specs.State.{IsRunning}
use Rattle.vm_step.specs.Raising.{running}
use Rattle.vm_step.specs.Run.{Runs}
use Rattle.vm_run.proofs.running.run.Given as goal

abbrev pub invariant-steps : goal.invariant-steps
invariant-steps g l = record {
  runs : Runs g.M.Cell.CellForm.cells l.world l._taken (g.M.Store.state l.fn.store) (running (g.M.Store.state l.store));
  going : IsRunning (g.M.Store.state l.store);
  keeps : g.M.Machine.keeps l.world (g.M.Store.state l.store);
  well : g.M.Store.well l.store;
  fixed : g.M.Store.fixed l.store ≡ g.M.Store.fixed l.fn.store;
}
