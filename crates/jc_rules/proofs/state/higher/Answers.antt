use Rattle.std.proofs.lemmas.Bool.{both_ways}
use Rattle.jc_rules.proofs.Raising.{join-over, rises-above}
use Rattle.jc_rules.proofs.state.higher.Goals as goal
use Rattle.jc_base.proofs.Joins.{IsJoin-above}

pub returns-then-below : goal.returns-then-below
returns-then-below c = (
  join-over c.args.classes.now c.args.held c.args.other (c.below.ensures.is.0 c.if-below.true),
  c.requires.other_known,
  rises-above c.args.classes.now c.args.held c.args.other (c.below.ensures.rises c.if-below.true) c.requires.differ,
)

pub returns-then-below-2 : goal.returns-then-below-2
returns-then-below-2 c = IsJoin-above c.args.classes.now (c.below-else-below.ensures.is.0 c.if-below-2.true)

pub returns-else-below-2 : goal.returns-else-below-2
returns-else-below-2 c = (
  c.join.ensures.is,
  c.join.ensures.known,
  c.types_are_ordered.ensures.order.rises c.join.ensures.is
      (λ h. both_ways _ c.if-below-2.false (c.below-else-below.ensures.is.1 h)),
)
