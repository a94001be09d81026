use Rattle.std.proofs.Common.{◌<◌, length, refl, arith}
use Rattle.jc_base.proofs.Bodies.{bodies-none, bodies-more, bodies-all}
use Rattle.jc_base.proofs.visible_bodies.all_have_bodies.Goals as goal

pub returns-then-at : goal.returns-then-at
returns-then-at c =
    let inside : c.entries.n-index < length c.args.list.now = omega arith in (
      (λ h. absurd (cc)),
      (λ all. absurd (bodies-none c.args.methods.now c.args.list.now c.entries.n-index _ c.at.result.now inside c.at.ensures c.if-at.true all)),
    )

pub entries-preserved : goal.entries-preserved
entries-preserved c = bodies-more _ _ _ _ _ (omega arith) c.at.ensures c.if-at.false c.entries.invariant

pub returns : goal.returns
returns c = ((λ h. bodies-all _ _ c.entries.n-index (omega arith) c.entries.invariant), (λ all. refl))
