use Rattle.std.proofs.Common.{◌-◌, ◌∷◌, ap, ◌∙◌, arith}
use Rattle.vm_store.specs.State.{top, nth, with_stack}
use Rattle.vm_act.proofs.Copies.{copied_more}
use Rattle.vm_act.proofs.register.copy.Goals as goal

pub copies-preserved : goal.copies-preserved
copies-preserved g c =
    let k = g.S.Cell.CellForm.cells in
    let before = g.S.Store.state c.args.store.now in let s = g.S.Store.state c.copies.store in
    let at = c.args.count - 1 in record {
      state =
          c.push.ensures.state
          ∙ (ap (λ x. with_stack s (x ∷ (top s).stack)) c.cell-cell.ensures
          ∙ (ap (λ z. with_stack z (nth k (top z).stack at ∷ (top z).stack)) c.copies.invariant.state
          ∙ ap (with_stack before) (copied_more (top before).stack c.args.count c.copies._n k.empty c.requires.cells (omega arith))));
      well = c.push.ensures.well;
      fixed = c.push.ensures.fixed ∙ c.copies.invariant.fixed;
    }
