use Rattle.std.proofs.Common.{subst}
use Rattle.jc_base.specs.Laws.{IsOrderOfTypes}
use Rattle.jc_rules.proofs.Decides.{operation-decides}
use Rattle.jc_rules.proofs.RuleFalls.{operation-falls}
use Rattle.jc_rules.proofs.Keeps.{operation-keeps}
use Rattle.jc_rules.proofs.Wholes.{operation-keeps-whole}
use Rattle.jc_rules.proofs.Cards.{operation-falls-on-card, operation-raises, operation-stays, operation-rests}
use Rattle.jc_rules.proofs.laws.operation_laws.Goals as goal

pub returns-clause-decides : goal.returns-clause-decides
returns-clause-decides c = operation-decides c.args.world.now (subst IsOrderOfTypes c.classes.ensures.is c.types_are_ordered.ensures.order)

pub returns-clause-keeps : goal.returns-clause-keeps
returns-clause-keeps c = operation-keeps c.args.world.now c.classes.ensures.links (subst IsOrderOfTypes c.classes.ensures.is c.types_are_ordered.ensures.order)

pub returns-clause-falls : goal.returns-clause-falls
returns-clause-falls c = operation-falls c.args.world.now (subst IsOrderOfTypes c.classes.ensures.is c.types_are_ordered.ensures.order)

pub returns-clause-falls_on_card : goal.returns-clause-falls_on_card
returns-clause-falls_on_card c =
    operation-falls-on-card c.args.world.now c.classes.ensures.links (subst IsOrderOfTypes c.classes.ensures.is c.types_are_ordered.ensures.order)

pub returns-clause-raises : goal.returns-clause-raises
returns-clause-raises c = operation-raises c.args.world.now (subst IsOrderOfTypes c.classes.ensures.is c.types_are_ordered.ensures.order)

pub returns-clause-stays : goal.returns-clause-stays
returns-clause-stays c = operation-stays c.args.world.now (subst IsOrderOfTypes c.classes.ensures.is c.types_are_ordered.ensures.order)

pub returns-clause-keeps_whole : goal.returns-clause-keeps_whole
returns-clause-keeps_whole c = operation-keeps-whole c.args.world.now c.classes.ensures.links

pub returns-clause-rests : goal.returns-clause-rests
returns-clause-rests c = operation-rests c.args.world.now (subst IsOrderOfTypes c.classes.ensures.is c.types_are_ordered.ensures.order)
