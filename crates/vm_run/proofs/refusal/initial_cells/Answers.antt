use Rattle.std.proofs.Common.{◌≡◌, ◌+◌, ℕ, length, take, arith}
use Rattle.std.specs.Prelude.{sum_by}
use Rattle.jc_base.specs.declared.record.ArrayRec.{ArrayRec}
use Rattle.vm_run.proofs.Sums.{sum-most, sum-next}
use Rattle.vm_run.proofs.refusal.initial_cells.Goals as goal

pub overflow_add-cells : goal.overflow_add-cells
overflow_add-cells c =
    let words : ArrayRec → ℕ = λ r. length r.initial in
    let most = sum-most words c.args.world.now.arrays c.arrays.n c.array.result.now c.array.ensures.is in
    let limit = c.classes-facts.ensures.links.limits.array_cells in
    omega (arith, most, limit, c.arrays.invariant, c.len-cells.ensures)

pub arrays-preserved : goal.arrays-preserved
arrays-preserved c =
    let words : ArrayRec → ℕ = λ r. length r.initial in
    let next = sum-next words c.args.world.now.arrays c.arrays.n c.array.result.now c.array.ensures.is in
    let e : c.arrays.cells + c.len-cells.result ≡ sum_by words (take (c.arrays.n + 1) c.args.world.now.arrays) = omega
    (arith, next, c.arrays.invariant, c.len-cells.ensures) in
    e
