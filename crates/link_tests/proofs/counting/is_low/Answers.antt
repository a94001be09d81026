use Rattle.std.proofs.Common.{◌≤◌, subst, arith}
use Rattle.jc_base.specs.Class.{height, height_below}
use Rattle.link_tests.proofs.counting.is_low.Goals as goal

pub returns : goal.returns
unfolding height
returns c = λ t.
    subst (λ n. height_below c.args.world.now.classes n ≤ c.args.most)
    (omega (arith, c.class_count-number-end.ensures.is, c.classes.auto.number-end, c.classes-test.false)) c.classes.invariant
