use Rattle.std.proofs.Common.{arith}
use Rattle.jc_rules.proofs.Demands.{IsFirstUnmet-at, Carries-more, CarriesAll-more, CarriesAll-end, Known-at}
use Rattle.jc_rules.proofs.demand.Before.check.Goals as goal

pub broken-requires-clause-demand : goal.broken-requires-clause-demand
broken-requires-clause-demand c = Known-at c.args.self.now.world.now.classes c.args.demands.now c.demands.demand-index _ (omega arith) c.requires.demands

pub returns-in-Some : goal.returns-in-Some
returns-in-Some c = IsFirstUnmet-at _ _ _ c.demands.demand-index _ (omega arith) _ c.demands.invariant.breaks c.in-Some.ensures

pub demands-preserved : goal.demands-preserved
demands-preserved c = record {
  all = CarriesAll-more _ _ _ _ _ (omega arith) c.demands.invariant.all c.in_default.ensures;
  breaks = Carries-more _ _ _ _ _ (omega arith) c.demands.invariant.breaks c.in_default.ensures;
}

pub returns : goal.returns
returns c = CarriesAll-end _ _ _ _ (omega arith) c.demands.invariant.all
