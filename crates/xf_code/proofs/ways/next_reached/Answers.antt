use Rattle.std.proofs.Common.{◌≡◌, ◌+◌, ◌-◌, ◌<◌, length, sym, ◌∙◌, ap, subst, arith}
use Rattle.xf_homes.specs.Plan.{first_reached}
use Rattle.xf_homes.specs.PlannedMethod.{source}
use Rattle.xf_code.specs.NextReached.{AreNextFrom}
use Rattle.xf_code.proofs.Reaching.{end-reached, here-reached, later-reached, from-before}
use Rattle.xf_code.proofs.ways.next_reached.Goals as goal
use Rattle.xf_code.proofs.ways.next_reached.Goals.{then-reached, else-reached}

pub places-init : goal.places-init
places-init c =
    let s = source c.args.plan.now in
    record {
      from = record {
        size = omega (arith, c.in_ok-next.ensures.len, c.in_ok-next.next.ok.0);
        each = λ p low high. absurd (omega (arith, low, high));
      };
      after = sym (end-reached s (length s.method.code) (omega arith));
      inside = omega arith;
    }

pub places-preserved : goal.places-preserved
places-preserved c =
    let s = source c.args.plan.now in
    let place = c.places.place - 1 in
    let next : place + 1 ≡ c.places.place = omega (arith, c.places-test.true) in
    let inside : place < length s.method.code = omega (arith, c.places-test.true, c.places.invariant.inside) in
    let after : c.if-reached.after ≡ first_reached s place =
    elim c.if-reached.branch [
      | then-reached w ↦ w.after-is ∙ sym (here-reached s place inside (sym c.reached.ensures ∙ w.if-reached.true))
      | else-reached w ↦ w.after-is ∙ c.places.invariant.after ∙ ap (first_reached s) (sym next)
          ∙ sym (later-reached s place inside (sym c.reached.ensures ∙ w.if-reached.false))
    ] in
    record {
      from =
          from-before s c.places.next.items place c.if-reached.after inside
          (subst (AreNextFrom s c.places.next.items) (sym next) c.places.invariant.from) after;
      after = after;
      inside = omega (arith, inside);
    }
