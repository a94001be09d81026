use Rattle.std.proofs.Common.{◌≡◌, take}
use Rattle.jc_rules.proofs.state.same_types.Given as goal

abbrev pub invariant-cells : goal.invariant-cells
invariant-cells l = take l.n l.a ≡ take l.n l.b
