use Rattle.std.proofs.Common.{reverse}
use Rattle.jc_rules.specs.Demand.{frame}
use Rattle.jc_rules.proofs.Demands.{Wanted}
use Rattle.jc_rules.proofs.demand.Before.check_arguments.Given as goal

abbrev pub invariant-arguments : goal.invariant-arguments
invariant-arguments l = Wanted l.self.world.now.classes (frame l.self) (reverse l.args) l.n
