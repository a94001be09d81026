use Rattle.std.proofs.Common.{◌≡◌, ◌+◌, ◌++◌, List, length, take, sym, ap, ◌∙◌, arith, length-append}
use Rattle.std.specs.Prelude.{flat_map}
use Rattle.jc_base.specs.declared.record.StaticRec.{StaticRec}
use Rattle.jc_base.specs.Cell.{width}
use Rattle.vm_store.specs.State.{State}
use Rattle.vm_store.specs.Layout.{overwritten}
use Rattle.vm_step.specs.Start.{field_cells}
use Rattle.vm_run.proofs.Sums.{sum-most, sum-next, flat-next}
use Rattle.vm_run.proofs.WritesInOrder.{overwritten-append, length-overwritten}
use Rattle.vm_run.proofs.Fields.{field-size, words-size}
use Rattle.vm_run.proofs.statics.write_statics.Goals as goal

pub write_field-slot-requires-clause-few : goal.write_field-slot-requires-clause-few
write_field-slot-requires-clause-few g c =
    let most = sum-most (λ (f : StaticRec). width f.kind) c.args.world.now.statics c.fields.n c.static_field.result.now c.static_field.ensures.is in
    let limit = c.classes-limits.ensures.links.limits.static_cells in
    omega (arith, most, limit, c.fields.invariant.slot)

pub write_field-slot-requires-clause-there : goal.write_field-slot-requires-clause-there
write_field-slot-requires-clause-there g c =
    let k = g.S.Cell.CellForm.cells in
    let Z : Type 0 = State g.row.S-Cell.Denot in
    let s : Z = g.S.Store.state c.args.store.now in
    let done = flat_map (λ (f : StaticRec). field_cells k f.kind f.initial) (take c.fields.n c.args.world.now.statics) in
    let most = sum-most (λ (f : StaticRec). width f.kind) c.args.world.now.statics c.fields.n c.static_field.result.now c.static_field.ensures.is in
    let size = c.fields.invariant.size in
    let count = c.requires.count in
    let slot = c.fields.invariant.slot in
    let all = ap (λ (x : Z). length x.statics) c.fields.invariant.state ∙ length-overwritten s.statics done 0 (omega (arith, most)) in
    omega (arith, most, all)

pub fields-preserved : goal.fields-preserved
fields-preserved g c =
    let k = g.S.Cell.CellForm.cells in
    let w = c.args.world.now in
    let n = c.fields.n in
    let f = c.static_field.result.now in
    let Z : Type 0 = State g.row.S-Cell.Denot in
    let s : Z = g.S.Store.state c.args.store.now in
    let Cells : StaticRec → List g.row.S-Cell.Denot = λ r. field_cells k r.kind r.initial in
    let done = flat_map Cells (take n w.statics) in
    let most = sum-most (λ (r : StaticRec). width r.kind) w.statics n f c.static_field.ensures.is in
    let next = sum-next (λ (r : StaticRec). width r.kind) w.statics n f c.static_field.ensures.is in
    let size = c.fields.invariant.size in
    let count = c.requires.count in
    let slot = c.fields.invariant.slot in
    let own : length (Cells f) ≡ width f.kind = field-size k f.kind f.initial
    (words-size w.classes w.arrays f.kind f.ty f.initial c.static_field.ensures.links.words) in
    let more : flat_map Cells (take (n + 1) w.statics) ≡ done ++ Cells f = flat-next Cells w.statics n f c.static_field.ensures.is in
    record {
      state = c.write_field-slot.ensures.state
          ∙ (ap (λ (x : Z). record x { statics = overwritten x.statics c.fields.slot (Cells f) }) c.fields.invariant.state
          ∙ (ap (λ (cs : List g.row.S-Cell.Denot). record s { statics = cs })
          (overwritten-append s.statics done (Cells f) 0 c.fields.slot (omega arith) (omega (arith, most)))
          ∙ ap (λ (cs : List g.row.S-Cell.Denot). record s { statics = overwritten s.statics 0 cs }) (sym more)));
      slot = omega (arith, c.write_field-slot.ensures.next, next);
      size = ap length more ∙ (length-append done (Cells f) ∙ omega (arith, own, c.write_field-slot.ensures.next));
      well = c.write_field-slot.ensures.well;
      fixed = c.write_field-slot.ensures.fixed ∙ c.fields.invariant.fixed;
    }
