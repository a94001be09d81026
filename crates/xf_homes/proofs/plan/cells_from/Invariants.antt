use Rattle.std.proofs.Common.{◌≡◌, ◌-◌, ◌++◌, length}
use Rattle.xf_homes.specs.Plan.{cells_from}
use Rattle.xf_homes.proofs.plan.cells_from.Given as goal

abbrev pub invariant-cells : goal.invariant-cells
invariant-cells l =
    l.homes.items ++ cells_from l.slot l.cells l.n (length l.cells - l.n) ≡ cells_from l.slot l.cells 0 (length l.cells)
