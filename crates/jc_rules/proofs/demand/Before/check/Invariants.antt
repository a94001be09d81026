use Rattle.jc_rules.specs.Demand.{frame}
use Rattle.jc_rules.proofs.Demands.{Carries, CarriesAll}
use Rattle.jc_rules.proofs.demand.Before.check.Given as goal

abbrev pub invariant-demands : goal.invariant-demands
invariant-demands l = record {
  all : CarriesAll l.self.world.now.classes (frame l.self) l.demands l.demand-index;
  breaks : Carries l.self.world.now.classes (frame l.self) l.demands l.demand-index;
}
