use Rattle.std.proofs.Common.{◌<◌, length, refl, arith, sym, ◌∙◌}
use Rattle.std.proofs.lemmas.List.{length-set}
use Rattle.std.proofs.lemmas.Bool.{true≢false}
use Rattle.jc_base.specs.Class.{IsNextOnChain, IsEndOfChain}
use Rattle.jc_base.proofs.Bodies.{Climbs-refuses, Climbs-step, Climbs-end, Met-read}
use Rattle.jc_base.proofs.visible_bodies.visible_have_bodies.Goals as goal

pub returns-then-not-is_met : goal.returns-then-not-is_met
returns-then-not-is_met c =
    let inside : c.home_of-home.result < length c.climb.seen = omega arith in (
      (λ h. absurd (cc)),
      (λ all. absurd (Climbs-refuses c.args.classes.now c.args.methods.now c.args.class c.climb.seen c.climb.at c.home_of-home.result _
          c.home_of-home.ensures.is inside c.climb.invariant.climbs (λ f. true≢false (sym (c.is_met.ensures.1 f) ∙ c.if-not-is_met.true)) all)),
    )

pub climb-preserved : goal.climb-preserved
climb-preserved c =
    let inside : c.home_of-home.result < length c.climb.seen = omega arith in
    let next : IsNextOnChain c.args.classes.now c.climb.at c.in-Some.parent = c.in-Some.ensures.climbs in
    record {
      class = next.class;
      room = length-set c.climb.seen c.home_of-home.result _ ∙ c.climb.invariant.room;
      climbs = Climbs-step c.args.classes.now c.args.methods.now c.args.class c.climb.seen c.climb.at c.home_of-home.result _
          c.home_of-home.ensures.is inside c.in-Some.parent next c.climb.invariant.climbs (c.is_met.ensures.0 c.if-not-is_met.false);
    }

pub returns-in-None : goal.returns-in-None
returns-in-None c =
    let inside : c.home_of-home.result < length c.climb.seen = omega arith in
    let end : IsEndOfChain c.args.classes.now c.climb.at = c.in-None.ensures.ends in (
      (λ _. Climbs-end c.args.classes.now c.args.methods.now c.args.class c.climb.seen c.climb.at end c.climb.invariant.climbs
          (Met-read c.args.classes.now c.args.methods.now c.args.class c.climb.seen c.climb.at c.home_of-home.result _
          c.home_of-home.ensures.is inside (c.is_met.ensures.0 c.if-not-is_met.false))),
      (λ _. refl),
    )
