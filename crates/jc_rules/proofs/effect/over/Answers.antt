use Rattle.jc_base.specs.Order.{same}
use Rattle.jc_rules.proofs.effect.over.Goals as goal

pub returns-then-below-clause-value : goal.returns-then-below-clause-value
returns-then-below-clause-value c = record { left = same; right = c.below.ensures.is.0 c.if-below.true; least = λ u p q. p }
