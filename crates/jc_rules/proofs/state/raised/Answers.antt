use Rattle.std.proofs.Common.{subst, sym}
use Rattle.jc_base.specs.Order.{Below, same}
use Rattle.jc_base.proofs.Joins.{IsJoin-above}
use Rattle.jc_rules.proofs.Raising.{top-above}
use Rattle.jc_rules.proofs.state.raised.Goals.{then-is_top-via-then-is_top, then-is_top-via-else-is_top+then-same_type}
use Rattle.jc_rules.proofs.state.raised.Goals as goal

pub returns-then-is_top : goal.returns-then-is_top
returns-then-is_top c =
    let t = c.args.classes.now in
    let held = c.args.held.now in
    elim c.then-is_top.branch [
      | then-is_top-via-then-is_top w ↦ IsJoin-above t (top-above t held c.args.other.now w.if-is_top.ensures)
      | then-is_top-via-else-is_top+then-same_type w ↦
          IsJoin-above t (subst (λ a. Below t a held) (sym (w.same_type.ensures.is.0 w.if-same_type.true)) same)
    ]
