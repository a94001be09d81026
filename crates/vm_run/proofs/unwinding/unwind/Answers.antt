use Rattle.std.proofs.Common.{◌≡◌, ℕ, sym, ap, ◌∙◌, subst, arith}
use Rattle.std.specs.Prelude.{find, None}
use Rattle.vm_store.specs.State.{State, IsRunning, top}
use Rattle.vm_step.specs.Methods.{handlers_of}
use Rattle.vm_step.specs.Raising.{catches, handler_for, unwound}
use Rattle.vm_run.specs.Turn.{AreMethods}
use Rattle.vm_run.proofs.Frames.{rest_known}
use Rattle.vm_run.proofs.Unwound.{unwound_dropped}
use Rattle.vm_run.proofs.unwinding.unwind.Goals as goal

pub frames-preserved : goal.frames-preserved
frames-preserved g c =
    let k = g.S.Cell.CellForm.cells in
    let w = c.args.world.now in
    let class = c.args.class in
    let z = g.S.Store.state c.frames.store in
    let Z : Type 0 = State g.row.S-Cell.Denot in
    let running : IsRunning z = omega (arith, c.frames-test.true, c.frame_count.ensures) in
    let none : handler_for w class (top z) ≡ None =
    sym (c.in-None.ensures
    ∙ (ap (λ (p : ℕ). find (catches w.classes p class) (handlers_of w c.method.result)) c.place.ensures
    ∙ ap (λ (m : ℕ). find (catches w.classes (top z).place class) (handlers_of w m)) c.method.ensures)) in
    record {
      same = ap (λ (x : Z). unwound k w class c.args.handle x x.frames) c.leave.ensures.state
          ∙ (unwound_dropped k w class c.args.handle z running none ∙ c.frames.invariant.same);
      methods = subst (AreMethods w) (sym c.leave.ensures.state) (rest_known w z c.frames.invariant.methods);
      well = c.leave.ensures.well;
      fixed = c.leave.ensures.fixed ∙ c.frames.invariant.fixed;
    }
