use Rattle.std.proofs.Common.{◌∙◌, sym, ap, length, arith}
use Rattle.jc_base.proofs.Meets.{meets_same, climb_right, climb_left, not_end_left, not_end_right}
use Rattle.jc_base.proofs.order.common.Goals as goal

pub returns-in-None : goal.returns-in-None
returns-in-None c =
    absurd (not_end_right c.args.classes.now c.climb.a c.climb.b c.in-None.ensures.ends (omega arith))

pub climb-preserved-then-a_depth-b_depth : goal.climb-preserved-then-a_depth-b_depth
climb-preserved-then-a_depth-b_depth c =
    let next = c.in-Some.ensures.climbs in
    record {
      a_class = c.climb.invariant.a_class;
      b_class = next.class;
      a_is = c.climb.invariant.a_is;
      b_is = omega (arith, ap length next.chain_is);
      asked = climb_right c.args.classes.now c.in-Some.ensures.chains c.climb.a c.climb.b c.in-Some.p next (omega arith) ∙ c.climb.invariant.asked;
    }

pub returns-in-None-parent : goal.returns-in-None-parent
returns-in-None-parent c =
    absurd
    (c.climb-test.true
    (sym (not_end_left c.args.classes.now c.in-None-parent.ensures.chains c.climb.a c.climb.b c.climb.invariant.b_class c.in-None-parent.ensures.ends
    (omega arith))))

pub climb-preserved : goal.climb-preserved
climb-preserved c =
    let next = c.in-Some-parent.ensures.climbs in
    record {
      a_class = next.class;
      b_class = c.climb.invariant.b_class;
      a_is = omega (arith, ap length next.chain_is);
      b_is = c.climb.invariant.b_is;
      asked =
          climb_left c.args.classes.now c.in-Some-parent.ensures.chains c.climb.a c.climb.b c.in-Some-parent.p next c.climb-test.true (omega arith)
          ∙ c.climb.invariant.asked;
    }

pub returns : goal.returns
returns c = meets_same c.args.classes.now c.climb.a ∙ rw (← c.climb-test.false) at c.climb.invariant.asked
