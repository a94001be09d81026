use Rattle.std.proofs.Common.{◌≡◌, take, length}
use Rattle.std.specs.Prelude.{flat_map, sum_by}
use Rattle.jc_base.specs.declared.record.StaticRec.{StaticRec}
use Rattle.jc_base.specs.Cell.{width}
use Rattle.vm_store.specs.Layout.{overwritten}
use Rattle.vm_step.specs.Start.{field_cells}
use Rattle.vm_run.proofs.statics.write_statics.Given as goal

abbrev pub invariant-fields : goal.invariant-fields
invariant-fields g l = record {
  state : g.S.Store.state l.store
      ≡ record (g.S.Store.state l.fn.store) {
        statics = overwritten
            (g.S.Store.state l.fn.store).statics
            0
            (flat_map (λ (f : StaticRec). field_cells g.S.Cell.CellForm.cells f.kind f.initial) (take l.n l.world.statics));
      };
  slot : l.slot ≡ sum_by (λ (f : StaticRec). width f.kind) (take l.n l.world.statics);
  size : length (flat_map (λ (f : StaticRec). field_cells g.S.Cell.CellForm.cells f.kind f.initial) (take l.n l.world.statics)) ≡ l.slot;
  well : g.S.Store.well l.store;
  fixed : g.S.Store.fixed l.store ≡ g.S.Store.fixed l.fn.store;
}
