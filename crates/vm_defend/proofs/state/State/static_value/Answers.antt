use Rattle.std.proofs.Common.{◌≡◌, length, sym, subst, arith}
use Rattle.std.specs.Prelude.{sum_by}
use Rattle.jc_base.specs.declared.record.StaticRec.{StaticRec}
use Rattle.jc_base.specs.Cell.{width}
use Rattle.vm_defend.specs.Held.{Held}
use Rattle.vm_defend.proofs.Slots.{slot-inside}
use Rattle.vm_defend.proofs.state.State.static_value.Goals as goal

pub value_at-requires : goal.value_at-requires
value_at-requires c =
    let inside = slot-inside 0 c.args.world.now.statics c.args.n c.static_field-field.result.now c.classes-slots.ensures.links.slots
    c.static_field-field.ensures.is in
    let cells : length c.self.inside.store.statics ≡ sum_by (λ (f : StaticRec). width f.kind) c.args.world.now.statics =
    subst (λ (run : Held). length run.state.statics ≡ sum_by (λ (f : StaticRec). width f.kind) c.args.world.now.statics) (sym c.self.view_is)
    c.requires.run.shaped.statics in
    omega (arith, inside, cells)
