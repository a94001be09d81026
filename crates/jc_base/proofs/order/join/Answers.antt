use Rattle.jc_base.proofs.Joins.{join_of-is, join_of-known, IsJoin-monotone}
use Rattle.jc_base.proofs.order.join.Goals as goal

pub returns-clause-is : goal.returns-clause-is
returns-clause-is c =
    rw c.join_of.ensures (join_of-is c.args.classes.now c.records.ensures.chains c.args.a c.args.b c.requires.a_known c.requires.b_known)

pub returns-clause-known : goal.returns-clause-known
returns-clause-known c =
    rw c.join_of.ensures (join_of-known c.args.classes.now c.records.ensures.chains c.args.a c.args.b c.requires.a_known c.requires.b_known)

pub returns-clause-monotone : goal.returns-clause-monotone
returns-clause-monotone c =
    rw c.join_of.ensures
    (λ x y k p q high. IsJoin-monotone c.args.classes.now p q
    (join_of-is c.args.classes.now c.records.ensures.chains c.args.a c.args.b c.requires.a_known c.requires.b_known) high)
