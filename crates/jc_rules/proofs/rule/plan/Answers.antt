use Rattle.std.proofs.Common.{◌<◌, ◌≤◌, length, subst, sym, reverse, arith}
use Rattle.std.proofs.lemmas.List.{length-reverse}
use Rattle.std.proofs.lemmas.Result.{err_from_is_err_and}
use Rattle.jc_rules.specs.Effect.{depth_after}
use Rattle.jc_rules.specs.Demand.{Frame}
use Rattle.jc_rules.specs.Apply.{unmet, full}
use Rattle.jc_rules.proofs.Plans.{plan-full}
use Rattle.jc_rules.proofs.rule.plan.Goals as goal

pub returns-in_err-effect : goal.returns-in_err-effect
returns-in_err-effect c =
    let p = err_from_is_err_and c.from_residual.result c.from_residual.ensures.1 in
    rw (p.1, p.2) (unmet c.in_err-effect.ensures)

pub returns-then-depth_after-max_stack : goal.returns-then-depth_after-max_stack
returns-then-depth_after-max_stack c =
    let f : Frame = record { regs = c.args.regs.now; stack = reverse c.args.stack.now } in
    let e = c.in_ok-effect.effect in
    let more : c.args.max_stack < depth_after e.change (length c.args.stack.now) = omega (arith, c.depth_after.ensures) in
    full c.in_ok-effect.ensures.0
    (plan-full c.args.world.now c.requires.world f c.requires.frame c.args.operation e c.args.max_stack c.requires.known c.in_ok-effect.ensures.0
    c.in_ok-effect.ensures.1
    (subst (λ n. c.args.max_stack < depth_after e.change n) (sym (length-reverse c.args.stack.now)) more))

pub returns : goal.returns
returns c =
    let e = c.in_ok-effect.effect in
    let room : depth_after e.change (length c.args.stack.now) ≤ c.args.max_stack = omega (arith, c.depth_after.ensures) in
    record {
      asked = c.in_ok-effect.ensures.0;
      effect_is = c.in_ok-effect.ensures.1;
      room = subst (λ n. depth_after e.change n ≤ c.args.max_stack) (sym (length-reverse c.args.stack.now)) room;
    }
