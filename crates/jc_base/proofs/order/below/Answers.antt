use Rattle.std.proofs.Common.{◌∙◌, sym}
use Rattle.jc_base.proofs.Subtypes.{below_decided, Below-from_is_below}
use Rattle.jc_base.proofs.Joins.{rises-falls, rises-bound, Below-antisym}
use Rattle.jc_base.proofs.order.below.Goals as goal

pub returns-clause-is : goal.returns-clause-is
returns-clause-is c = rw c.is_below.ensures (below_decided c.args.classes.now c.records.ensures.chains c.args.a c.args.b)

pub returns-clause-apart : goal.returns-clause-apart
returns-clause-apart c = λ p q. Below-antisym c.args.classes.now c.records.ensures.chains p q

pub returns-clause-rises : goal.returns-clause-rises
returns-clause-rises c =
    λ h. rises-falls c.args.classes.now c.records.ensures.chains
    (Below-from_is_below c.args.classes.now c.records.ensures.chains c.args.a c.args.b (sym c.is_below.ensures ∙ h))

pub returns-clause-seldom : goal.returns-clause-seldom
returns-clause-seldom c = rises-bound c.args.classes.now c.args.a
