use Rattle.jc_base.specs.ByClass.{AreBoundsUpTo}
use Rattle.jc_base.proofs.method_bounds.method_bounds.Given as goal

abbrev pub invariant-methods : goal.invariant-methods
invariant-methods l = AreBoundsUpTo l.methods l.count l.n l.bounds.items
