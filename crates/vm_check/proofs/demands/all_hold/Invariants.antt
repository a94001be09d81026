use Rattle.std.proofs.Common.{◌≡◌, drop}
use Rattle.std.specs.List.{list_all}
use Rattle.jc_rules.specs.Demand.{satisfies}
use Rattle.vm_step.specs.Tests.{types_of}
use Rattle.vm_check.proofs.demands.all_hold.Given as goal

-- the demands that are left hold where all do
abbrev pub invariant-demands : goal.invariant-demands
invariant-demands g l =
    let p = satisfies l.world.classes (types_of g.S.Cell.CellForm.cells l.world (g.S.Store.state l.store)) in
    list_all p (drop l.demand-index l.demands) ≡ list_all p l.demands
