use Rattle.jc_rules.proofs.Raising.{RaisedTo}
use Rattle.jc_rules.proofs.state.raise.Given as goal

abbrev pub invariant-cells : goal.invariant-cells
invariant-cells l = RaisedTo l.classes l.initial.cells l.others l.n l.cells l.rises
