use Rattle.std.proofs.Common.{◌+◌, drop, sym, ◌∙◌, ap}
use Rattle.std.specs.Prelude.{reverse, ◌&&◌}
use Rattle.std.specs.List.{list_all}
use Rattle.jc_rules.specs.Demand.{satisfies}
use Rattle.jc_rules.specs.Rule.{cells_wanted}
use Rattle.vm_step.specs.Tests.{types_of}
use Rattle.vm_check.proofs.Calling.{next-argument}
use Rattle.vm_check.proofs.calls.arguments_hold.Goals as goal

pub returns-then-not-cell_meets : goal.returns-then-not-cell_meets
returns-then-not-cell_meets g c =
    let w = c.args.world.now in let args = c.args.args.now in let n = c.arguments.n in
    let p = satisfies w.classes (types_of g.S.Cell.CellForm.cells w (g.S.Store.state c.args.store.now)) in
    sym
    (sym c.arguments.invariant
    ∙ (next-argument p args n _ c.arguments-test.true
    ∙ ap (λ b. b && list_all p (cells_wanted (n + 1) (drop (n + 1) (reverse args)))) (sym c.cell_meets.ensures ∙ c.if-not-cell_meets.true)))

pub arguments-preserved : goal.arguments-preserved
arguments-preserved g c =
    let w = c.args.world.now in let args = c.args.args.now in let n = c.arguments.n in
    let p = satisfies w.classes (types_of g.S.Cell.CellForm.cells w (g.S.Store.state c.args.store.now)) in
    sym
    (next-argument p args n _ c.arguments-test.true
    ∙ ap (λ b. b && list_all p (cells_wanted (n + 1) (drop (n + 1) (reverse args)))) (sym c.cell_meets.ensures ∙ c.if-not-cell_meets.false))
    ∙ c.arguments.invariant
