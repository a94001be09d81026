use Rattle.std.specs.List.{AllWithin}
use Rattle.jc_rules.specs.Flow.{IsNotTop}
use Rattle.jc_rules.proofs.state.has_top.Given as goal

abbrev pub invariant-cells : goal.invariant-cells
invariant-cells l = AllWithin IsNotTop l.cells 0 l.cell-index
