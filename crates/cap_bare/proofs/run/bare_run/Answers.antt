use Rattle.std.proofs.Common.{◌≡◌, ◌+◌, ◌-◌, ◌++◌, ◌∙◌, sym, ap, subst, ℕ, suc, [], pos, length, replicate, refl, arith, rules}
use Rattle.std.proofs.lemmas.List.{length-append, length-replicate}
use Rattle.std.proofs.lemmas.Int.{to_z-of_z}
use Rattle.std.specs.Int.{w16}
use mir.Val.{SFits}
use Rattle.cap_bare.specs.Machine.{BareState, after, entered, returned, IsSafe}
use Rattle.cap_bare.specs.Leading.{state_in_frame}
use Rattle.cap_bare.proofs.Running.{fault-free, safe-next, after-next, after-end, after-none}
use Rattle.cap_bare.proofs.Stepping.{frame-is, registers-kept}
use Rattle.cap_bare.proofs.run.bare_run.Goals as goal

pub steps-init : goal.steps-init
steps-init c =
    let e : state_in_frame 0 c.entered-frame.result ≡ entered c.args.bare c.args.args.now =
    ap (state_in_frame 0) (frame-is c.entered-frame.result (c.args.args.now ++ replicate c.args.bare.max_locals (pos 0)) []
    c.entered-frame.ensures.registers c.entered-frame.ensures.stack) in
    record {
      same = let n : c.args.budget - 0 ≡ c.args.budget = omega arith in rw (e, n) refl;
      safe = subst (IsSafe c.args.code.bytes.now c.args.bare) (sym e)
          (fault-free c.args.code.bytes.now c.args.bare c.requires.filled c.requires.accepted c.args.args.now c.requires.arguments);
      registers =
          ap length c.entered-frame.ensures.registers
          ∙ length-append c.args.args.now (replicate c.args.bare.max_locals (pos 0))
          ∙ omega (arith, c.requires.arguments, length-replicate c.args.bare.max_locals (pos 0));
    }

pub returns-in-Ended : goal.returns-in-Ended
returns-in-Ended c =
    let fits : SFits w16 c.in-Ended.value = search rules in
    let n : c.args.budget - c.steps._taken ≡ suc (c.args.budget - (c.steps._taken + 1)) = omega arith in
    sym c.steps.invariant.same
    ∙ ap (λ (n : ℕ). after n c.args.code.bytes.now c.args.bare (state_in_frame c.steps.place c.steps.frame)) n
    ∙ after-end c.args.code.bytes.now c.args.bare _ (state_in_frame c.steps.place c.steps.frame) c.in-Ended.value (sym c.in-Ended.ensures)
    ∙ ap returned (sym (to_z-of_z w16 c.in-Ended.value fits))

pub steps-preserved : goal.steps-preserved
steps-preserved c =
    let s : BareState = state_in_frame c.steps.place c.steps.frame in
    let t : BareState = state_in_frame c.in-At.next c.step.new.frame in
    let n : c.args.budget - c.steps._taken ≡ suc (c.args.budget - (c.steps._taken + 1)) = omega arith in
    record {
      same =
          sym (after-next c.args.code.bytes.now c.args.bare _ s t (sym c.in-At.ensures))
          ∙ ap (λ (n : ℕ). after n c.args.code.bytes.now c.args.bare s) (sym n)
          ∙ c.steps.invariant.same;
      safe = safe-next c.args.code.bytes.now c.args.bare s t (sym c.in-At.ensures) c.steps.invariant.safe;
      registers = registers-kept c.args.code.bytes.now c.args.bare s c.steps.invariant.safe t (sym c.in-At.ensures) ∙ c.steps.invariant.registers;
    }

pub returns : goal.returns
returns c =
    let n : c.args.budget - c.steps._taken ≡ 0 = omega arith in (
      state_in_frame c.steps.place c.steps.frame,
      sym c.steps.invariant.same
          ∙ ap (λ (n : ℕ). after n c.args.code.bytes.now c.args.bare (state_in_frame c.steps.place c.steps.frame)) n
          ∙ after-none c.args.code.bytes.now c.args.bare (state_in_frame c.steps.place c.steps.frame),
    )
