use Rattle.std.proofs.Common.{◌≡◌, ◌+◌, ◌<◌, ◌≤◌, length, sym, ap, ◌∙◌, subst, arith}
use Rattle.std.specs.Prelude.{Some, None}
use Rattle.jc_ops.specs.Sound.{receiver_count}
use Rattle.jc_rules.specs.Rule.{args_at, call_demands}
use Rattle.vm_store.specs.State.{top}
use Rattle.vm_step.specs.declared.ending.Fault.TheVariants.{TypeFault, StackFault}
use Rattle.vm_step.specs.Tests.{unmet}
use Rattle.vm_check.proofs.Calling.{too-few, all-met, one-unmet}
use Rattle.vm_check.proofs.calls.call_fault.Goals as goal

pub returns-then-depth-args : goal.returns-then-depth-args
returns-then-depth-args g c =
    let k = g.S.Cell.CellForm.cells in let w = c.args.world.now in let s = g.S.Store.state c.args.store.now in
    let args = c.as_slice-args.result.now in let o = c.args.callee.receiver in
    let is = c.as_slice-args.ensures ∙ sym (ap args_at c.method.ensures.is) in
    let few : length (top s).stack < length args + receiver_count o = omega (arith, c.if-depth-args.true, c.depth.ensures, c.receiver_count.ensures) in
    subst (λ xs. Some StackFault ≡ unmet k w (call_demands xs o) s) is (too-few k w args o s few)

pub returns-then-cells_hold : goal.returns-then-cells_hold
returns-then-cells_hold g c =
    let k = g.S.Cell.CellForm.cells in let w = c.args.world.now in let s = g.S.Store.state c.args.store.now in
    let args = c.as_slice-args.result.now in let o = c.args.callee.receiver in
    let is = c.as_slice-args.ensures ∙ sym (ap args_at c.method.ensures.is) in
    let enough : length args + receiver_count o ≤ length (top s).stack = omega (arith, c.if-depth-args.false, c.depth.ensures, c.receiver_count.ensures) in
    subst (λ xs. None ≡ unmet k w (call_demands xs o) s) is (all-met k w args o s enough (sym c.cells_hold.ensures ∙ c.if-cells_hold.true))

pub returns-else-cells_hold : goal.returns-else-cells_hold
returns-else-cells_hold g c =
    let k = g.S.Cell.CellForm.cells in let w = c.args.world.now in let s = g.S.Store.state c.args.store.now in
    let args = c.as_slice-args.result.now in let o = c.args.callee.receiver in
    let is = c.as_slice-args.ensures ∙ sym (ap args_at c.method.ensures.is) in
    let enough : length args + receiver_count o ≤ length (top s).stack = omega (arith, c.if-depth-args.false, c.depth.ensures, c.receiver_count.ensures) in
    subst (λ xs. Some TypeFault ≡ unmet k w (call_demands xs o) s) is (one-unmet k w args o s enough (sym c.cells_hold.ensures ∙ c.if-cells_hold.false))
