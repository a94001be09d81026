use Rattle.std.proofs.Common.{◌∙◌, sym}
use Rattle.jc_base.proofs.Climbs.{on_chain-here, not_here-next, not_here-alone}
use Rattle.jc_base.proofs.order.is_on_chain.Goals as goal

pub returns-then-at-d : goal.returns-then-at-d
returns-then-at-d c = sym (on_chain-here c.args.classes.now c.args.d) ∙ rw c.if-at-d.true at c.climb.invariant.asked

pub climb-preserved : goal.climb-preserved
climb-preserved c =
    record {
      class = c.in-Some.ensures.climbs.class;
      asked = not_here-next c.args.classes.now c.args.d c.climb.at c.in-Some.p c.in-Some.ensures.climbs c.if-at-d.false ∙ c.climb.invariant.asked;
    }

pub returns-in-None : goal.returns-in-None
returns-in-None c =
    not_here-alone c.args.classes.now c.args.d c.climb.at c.in-None.ensures.ends.chain_is c.if-at-d.false ∙ c.climb.invariant.asked
