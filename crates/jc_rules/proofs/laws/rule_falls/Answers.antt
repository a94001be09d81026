use Rattle.std.proofs.Common.{subst}
use Rattle.jc_base.specs.Laws.{IsOrderOfTypes}
use Rattle.jc_rules.proofs.RuleFalls.{rule-falls}
use Rattle.jc_rules.proofs.Cards.{rule-falls-on-card}
use Rattle.jc_rules.proofs.laws.rule_falls.Goals as goal

pub returns-clause-flow : goal.returns-clause-flow
returns-clause-flow c = rule-falls c.args.world.now (subst IsOrderOfTypes c.classes.ensures.is c.types_are_ordered.ensures.order)

pub returns-clause-card : goal.returns-clause-card
returns-clause-card c =
    rule-falls-on-card c.args.world.now c.classes.ensures.links (subst IsOrderOfTypes c.classes.ensures.is c.types_are_ordered.ensures.order)
    c.operations_are_sound.ensures.sound
