use Rattle.std.proofs.Common.{arith, ◌∙◌, ◌<◌, ap, set, length}
use Rattle.std.proofs.lemmas.List.{get_or_default}
use Rattle.std.proofs.lemmas.List.Edits.{map_over_more}
use Rattle.jc_rules.specs.Effect.{ready}
use Rattle.jc_rules.proofs.effect.ready_all.Goals as goal

pub loop-cell-preserved : goal.loop-cell-preserved
loop-cell-preserved c =
    let inside : c.loop-cell.cell-index < length c.loop-cell.cells = omega arith in
    ap (λ y. set c.loop-cell.cells c.loop-cell.cell-index y) c.ready.ensures
    ∙ map_over_more (ready c.args.place c.args.class) c.args.cells.now c.loop-cell.cells c.loop-cell.cell-index _ (omega arith)
    c.loop-cell.invariant (get_or_default _ _ _ _ inside)
