use Rattle.std.proofs.Common.{◌≡◌, drop}
use Rattle.std.specs.Prelude.{reverse}
use Rattle.std.specs.List.{list_all}
use Rattle.jc_rules.specs.Demand.{satisfies}
use Rattle.jc_rules.specs.Rule.{cells_wanted}
use Rattle.vm_step.specs.Tests.{types_of}
use Rattle.vm_check.proofs.calls.arguments_hold.Given as goal

-- the arguments that are left are as wanted where all are
abbrev pub invariant-arguments : goal.invariant-arguments
invariant-arguments g l =
    let p = satisfies l.world.classes (types_of g.S.Cell.CellForm.cells l.world (g.S.Store.state l.store)) in
    list_all p (cells_wanted l.n (drop l.n (reverse l.args))) ≡ list_all p (cells_wanted 0 (reverse l.args))
