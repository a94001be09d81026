use Rattle.std.proofs.Common.{subst}
use Rattle.jc_base.specs.Laws.{IsOrderOfTypes}
use Rattle.jc_rules.proofs.DecidedDemands.{are-decided}
use Rattle.jc_rules.proofs.laws.demands_are_decided.Goals as goal

pub returns : goal.returns
returns c = are-decided c.args.world.now.classes (subst IsOrderOfTypes c.classes.ensures.is c.types_are_ordered.ensures.order)
