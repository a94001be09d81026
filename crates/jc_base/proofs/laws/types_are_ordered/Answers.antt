use Rattle.jc_base.proofs.SameTypes.{same_type-decides}
use Rattle.jc_base.proofs.Orders.{order-of-types, declared-known}
use Rattle.jc_base.proofs.laws.types_are_ordered.Goals as goal

pub returns-clause-order : goal.returns-clause-order
returns-clause-order c = order-of-types c.args.classes.now c.records.ensures.chains

pub returns-clause-declared : goal.returns-clause-declared
returns-clause-declared c = declared-known c.args.classes.now

pub returns-clause-same : goal.returns-clause-same
returns-clause-same c = same_type-decides
