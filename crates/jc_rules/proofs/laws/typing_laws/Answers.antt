use Rattle.std.proofs.Common.{subst}
use Rattle.jc_base.specs.Laws.{IsOrderOfTypes}
use Rattle.jc_rules.proofs.Flowing.{is-order-of-cells, joins-stay-ready, least-is-one, top-is-bottom}
use Rattle.jc_rules.proofs.laws.typing_laws.Goals as goal

pub returns-clause-order : goal.returns-clause-order
returns-clause-order c = is-order-of-cells c.args.world.now.classes (subst IsOrderOfTypes c.classes.ensures.is c.types_are_ordered.ensures.order)

pub returns-clause-ready : goal.returns-clause-ready
returns-clause-ready c = joins-stay-ready c.args.world.now.classes (subst IsOrderOfTypes c.classes.ensures.is c.types_are_ordered.ensures.order)

pub returns-clause-least : goal.returns-clause-least
returns-clause-least c = least-is-one c.args.world.now (subst IsOrderOfTypes c.classes.ensures.is c.types_are_ordered.ensures.order)

pub returns-clause-unset : goal.returns-clause-unset
returns-clause-unset c = top-is-bottom c.args.world.now
