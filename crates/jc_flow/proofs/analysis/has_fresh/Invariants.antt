use Rattle.std.specs.List.{AllWithin}
use Rattle.jc_rules.specs.Flow.{IsNotFresh}
use Rattle.jc_flow.proofs.analysis.has_fresh.Given as goal

abbrev pub invariant-cells : goal.invariant-cells
invariant-cells l = AllWithin IsNotFresh l.cells 0 l.cell-index
