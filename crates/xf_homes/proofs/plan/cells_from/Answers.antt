use Rattle.std.proofs.Common.{◌<◌, ◌+◌, length, Some, None, sym, ◌∙◌, ap, arith}
use Rattle.std.proofs.lemmas.List.{append-nil}
use Rattle.xf_homes.specs.Plan.{home_of}
use Rattle.xf_homes.proofs.PlanSteps.{cells-next}
use Rattle.xf_homes.proofs.plan.cells_from.Goals as goal

pub cells-preserved-in_default : goal.cells-preserved-in_default
cells-preserved-in_default c =
    let inside : c.cells.n < length c.args.cells.now = omega arith in
    cells-next c.cells.homes.items c.cells.homes.items _ c.args.slot c.args.cells.now c.cells.n (length c.args.cells.now) None inside
    (sym c.in_default.is ∙ c.home_of.ensures ∙ ap (home_of (c.args.slot + c.cells.n)) c.value_at.ensures) (sym (append-nil c.cells.homes.items))
    c.cells.invariant

pub cells-preserved : goal.cells-preserved
cells-preserved c =
    let inside : c.cells.n < length c.args.cells.now = omega arith in
    cells-next c.cells.homes.items _ _ c.args.slot c.args.cells.now c.cells.n (length c.args.cells.now) (Some c.in-Some.home) inside
    (sym c.in-Some.is ∙ c.home_of.ensures ∙ ap (home_of (c.args.slot + c.cells.n)) c.value_at.ensures) c.in_ok-push.ensures.items c.cells.invariant
