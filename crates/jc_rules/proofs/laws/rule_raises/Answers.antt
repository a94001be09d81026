use Rattle.std.proofs.Common.{subst}
use Rattle.jc_rules.proofs.Cards.{rule-raises, rule-rises, rule-stays, rule-rests}
use Rattle.jc_base.specs.Laws.{IsOrderOfTypes}
use Rattle.jc_rules.proofs.laws.rule_raises.Goals as goal

pub returns-clause-raises : goal.returns-clause-raises
returns-clause-raises c = rule-raises c.args.world.now (subst IsOrderOfTypes c.classes.ensures.is c.types_are_ordered.ensures.order)

pub returns-clause-rises : goal.returns-clause-rises
returns-clause-rises c = rule-rises c.args.world.now (subst IsOrderOfTypes c.classes.ensures.is c.types_are_ordered.ensures.order)

pub returns-clause-stays : goal.returns-clause-stays
returns-clause-stays c = rule-stays c.args.world.now (subst IsOrderOfTypes c.classes.ensures.is c.types_are_ordered.ensures.order)

pub returns-clause-rests : goal.returns-clause-rests
returns-clause-rests c = rule-rests c.args.world.now (subst IsOrderOfTypes c.classes.ensures.is c.types_are_ordered.ensures.order)
