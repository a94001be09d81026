use Rattle.std.proofs.Common.{◌≡◌, ◌+◌, take, arith}
use Rattle.std.specs.Prelude.{sum_by}
use Rattle.jc_base.specs.declared.record.StaticRec.{StaticRec}
use Rattle.jc_base.specs.Cell.{width}
use Rattle.vm_run.proofs.Sums.{sum-most, sum-next}
use Rattle.vm_defend.proofs.starting.static_cells.Goals as goal

pub overflow_add-cells : goal.overflow_add-cells
overflow_add-cells c =
    let most = sum-most (λ (f : StaticRec). width f.kind) c.args.world.now.statics c.fields.n c.static_field.result.now c.static_field.ensures.is in
    let limit = c.classes-limits.ensures.links.limits.static_cells in
    omega (arith, most, limit, c.fields.invariant, c.width-cells.ensures.value)

pub fields-preserved : goal.fields-preserved
fields-preserved c =
    let next = sum-next (λ (f : StaticRec). width f.kind) c.args.world.now.statics c.fields.n c.static_field.result.now c.static_field.ensures.is in
    let e : c.fields.cells + c.width-cells.result ≡ sum_by (λ (f : StaticRec). width f.kind) (take (c.fields.n + 1) c.args.world.now.statics) =
    omega (arith, next, c.fields.invariant, c.width-cells.ensures.value) in
    e
