use Rattle.std.proofs.Common.{◌<◌, ◌-◌, ◌+◌, length, sym, ◌∙◌, ap, arith}
use Rattle.xf_homes.specs.Walk.{cells_events, with_home_of_value, with_events}
use Rattle.xf_homes.proofs.Steps.{cells-step}
use Rattle.xf_homes.proofs.walk.keep_cells.Goals as goal

pub values-preserved : goal.values-preserved
values-preserved c =
    let inside : c.values.n < length c.args.cells.now = omega arith in
    ap (λ xs. with_events xs (cells_events c.args.place c.args.slot c.args.cells.now (c.values.n + 1) (length c.args.cells.now - (c.values.n + 1))))
    (c.in_ok-keep_value.ensures ∙ ap (with_home_of_value c.values.homes.keys (c.args.slot + c.values.n)) c.value_at.ensures)
    ∙ sym (cells-step c.values.homes.keys c.args.place c.args.slot c.args.cells.now c.values.n (length c.args.cells.now) inside)
    ∙ c.values.invariant
