use Rattle.std.proofs.Common.{◌≡◌, ◌++◌, drop}
use Rattle.xf_homes.specs.PlannedMethod.{source}
use Rattle.xf_emission.specs.Edge.{cell_copies}
use Rattle.xf_code.proofs.emitter.Emitter.cell_copies.Given as goal

abbrev pub invariant-cells : goal.invariant-cells
invariant-cells l =
    l.items.items ++ cell_copies (source l.self.plan) (drop l.n l.from) (drop l.n l.to)
    ≡ l.fn.items.items ++ cell_copies (source l.self.plan) l.from l.to
