use Rattle.std.proofs.Common.{◌≡◌, length}
use Rattle.vm_step.specs.Raising.{unwound}
use Rattle.vm_run.specs.Turn.{AreMethods}
use Rattle.vm_run.proofs.unwinding.unwind.Given as goal

abbrev pub invariant-frames : goal.invariant-frames
invariant-frames g l = record {
  same : unwound g.S.Cell.CellForm.cells l.world l.class l.handle (g.S.Store.state l.store) (g.S.Store.state l.store).frames
      ≡ unwound g.S.Cell.CellForm.cells l.world l.class l.handle (g.S.Store.state l.fn.store) (g.S.Store.state l.fn.store).frames;
  methods : AreMethods l.world (g.S.Store.state l.store);
  well : g.S.Store.well l.store;
  fixed : g.S.Store.fixed l.store ≡ g.S.Store.fixed l.fn.store;
}

abbrev pub decreases-frames : goal.decreases-frames
decreases-frames g l = length (g.S.Store.state l.store).frames
