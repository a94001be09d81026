use Rattle.std.proofs.Common.{sym}
use Rattle.jc_rules.specs.Flow.{IsNotFresh}
use Rattle.jc_flow.proofs.Derived.{derived-fine}
use Rattle.jc_flow.specs.Visit.{analysed}
use Rattle.jc_rules.proofs.Sites.{of-site, refuses-of-site}
use Rattle.jc_flow.proofs.Steps.{all-of_slice, all-to_slice, decodes-always, fail-rule, fail-jump, fall-past}
use Rattle.jc_flow.proofs.analysis.Analysis.step.Goals as goal

pub returns-in-Err-clause-failed : goal.returns-in-Err-clause-failed
returns-in-Err-clause-failed c =
    decodes-always c.args.self.now.subject.code.bytes.now c.args.self.now.subject.listed c.args.place c.requires.here.place
    (sym c.in-Err.ensures.value)

pub apply-requires-clause-regs_known : goal.apply-requires-clause-regs_known
apply-requires-clause-regs_known c =
    (derived-fine c.args.self.now.subject.world.now c.requires.analysis.rules (analysed c.args.self.now) c.args.self.now.subject.there
    c.requires.here.derived).known.regs

pub apply-requires-clause-stack_known : goal.apply-requires-clause-stack_known
apply-requires-clause-stack_known c =
    (derived-fine c.args.self.now.subject.world.now c.requires.analysis.rules (analysed c.args.self.now) c.args.self.now.subject.there
    c.requires.here.derived).known.stack

pub returns-in-Err-apply-clause-failed : goal.returns-in-Err-apply-clause-failed
returns-in-Err-apply-clause-failed c =
    fail-rule c.args.self.now.subject.world.now (analysed c.args.self.now) c.args.self.now.subject.listed c.args.place
    c.args.frame.now.frame c.requires.here c.in-Ok.insn (sym c.in-Ok.ensures.value) c.in-Err-apply.fault
    (refuses-of-site c.args.self.now.subject.world.now (analysed c.args.self.now) c.args.self.now.subject.there c.in-Err-apply.ensures.stepped)

pub returns-then-jumps_with_fresh-clause-failed : goal.returns-then-jumps_with_fresh-clause-failed
returns-then-jumps_with_fresh-clause-failed c =
    fail-jump c.args.self.now.subject.world.now (analysed c.args.self.now) c.args.self.now.subject.listed c.args.place
    c.args.frame.now.frame c.requires.here c.in-Ok.insn (sym c.in-Ok.ensures.value) c.apply.new.self.frame (
      c.in_default.ensures.stepped.0,
      of-site c.args.self.now.subject.world.now (analysed c.args.self.now) c.args.self.now.subject.there
          c.in_default.ensures.stepped.1,
    )
    c.if-jumps_with_fresh.ensures.0
    (λ all. c.if-jumps_with_fresh.ensures.1 (all-to_slice IsNotFresh c.stack.result.now c.apply.new.self.frame.stack c.stack.ensures.is all))

pub returns-then-falls_off-clause-failed : goal.returns-then-falls_off-clause-failed
returns-then-falls_off-clause-failed c =
    fall-past c.args.self.now.subject.world.now (analysed c.args.self.now) c.args.self.now.subject.listed c.args.place
    c.args.frame.now.frame c.requires.here c.in-Ok.insn (sym c.in-Ok.ensures.value) c.apply.new.self.frame (
      c.in_default.ensures.stepped.0,
      of-site c.args.self.now.subject.world.now (analysed c.args.self.now) c.args.self.now.subject.there
          c.in_default.ensures.stepped.1,
    )
    (λ j. all-of_slice IsNotFresh c.stack.result.now c.apply.new.self.frame.stack c.stack.ensures.is (c.if-jumps_with_fresh.ensures j))
    c.if-falls_off.ensures.0 c.if-falls_off.ensures.1

pub returns-clause-stepped : goal.returns-clause-stepped
returns-clause-stepped c = record {
  decodes = sym c.in-Ok.ensures.value;
  steps = (
    c.in_default.ensures.stepped.0,
    of-site c.args.self.now.subject.world.now (analysed c.args.self.now) c.args.self.now.subject.there
        c.in_default.ensures.stepped.1,
  );
  ready = λ j. all-of_slice IsNotFresh c.stack.result.now c.apply.new.self.frame.stack c.stack.ensures.is (c.if-jumps_with_fresh.ensures j);
  stays = c.if-falls_off.ensures;
}
