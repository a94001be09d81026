use Rattle.std.proofs.Common.{◌≡◌, ◌∙◌, rules, reverse, subst, sym}
use Rattle.std.specs.Prelude.{pos, FitsSigned}
use Rattle.std.specs.Int.{w32}
use Rattle.std.proofs.lemmas.Int.{to_z-of_z}
use Rattle.std.specs.List.{Contains}
use Rattle.jc_decode.specs.Listing.{targets}
use Rattle.jc_rules.specs.Demand.{Frame}
use Rattle.jc_control.specs.Control.{jumped}
use Rattle.jc_rules.specs.Flow.{At, FrameBelow}
use Rattle.jc_rules.specs.Typing.{state_at}
use Rattle.jc_flow.specs.Found.{Prevents}
use Rattle.jc_flow.specs.Progress.{IsHeld}
use Rattle.jc_flow.specs.Fails.{IsFailure}
use Rattle.jc_flow.specs.Visit.{analysed, IsAtTarget}
use Rattle.jc_flow.proofs.Leading.{frame-is, target-held, target-ranges, edge-broken}
use Rattle.jc_flow.proofs.analysis.Analysis.raise_target.Goals as goal

pub place_of-to-requires-clause-low : goal.place_of-to-requires-clause-low
place_of-to-requires-clause-low c =
    let fits : FitsSigned w32 c.args.target = search rules in
    rw (to_z-of_z w32 c.args.target fits)
    ((target-ranges c.args.self.now.subject.world.now c.requires.analysis.rules (analysed c.args.self.now) c.args.self.now.subject.there
    c.requires.analysis.control.formed c.args.step.place c.requires.step.from c.args.step.after.now.frame c.args.step.insn c.requires.step.here
    c.requires.step.stepped c.args.target c.args.self.now.subject.short c.requires.listed).0)

pub place_of-to-requires-clause-high : goal.place_of-to-requires-clause-high
place_of-to-requires-clause-high c =
    let fits : FitsSigned w32 c.args.target = search rules in
    rw (to_z-of_z w32 c.args.target fits)
    ((target-ranges c.args.self.now.subject.world.now c.requires.analysis.rules (analysed c.args.self.now) c.args.self.now.subject.there
    c.requires.analysis.control.formed c.args.step.place c.requires.step.from c.args.step.after.now.frame c.args.step.insn c.requires.step.here
    c.requires.step.stepped c.args.target c.args.self.now.subject.short c.requires.listed).1)

pub raise-requires-clause-frame : goal.raise-requires-clause-frame
raise-requires-clause-frame c =
    let fits : FitsSigned w32 c.args.target = search rules in
    let same : c.args.target ≡ pos c.place_of-to.result = sym (c.place_of-to.ensures ∙ to_z-of_z w32 c.args.target fits) in
    let fr : ◌≡◌ {A = Frame} (record { regs = c.regs.result.now; stack = reverse c.stack.result.now }) c.args.step.after.now.frame = frame-is
    c.regs.result.now (reverse c.stack.result.now) c.args.step.after.now.frame c.regs.ensures c.stack.ensures.is in
    subst (λ f. IsHeld c.args.self.now.subject.world.now (analysed c.args.self.now) c.place_of-to.result f) (sym fr)
    (target-held c.args.self.now.subject.world.now c.requires.analysis.rules (analysed c.args.self.now) c.args.self.now.subject.there
    c.requires.analysis.control.formed c.args.step.place c.requires.step.from c.args.step.after.now.frame c.args.step.insn c.requires.step.here
    c.requires.step.stepped c.place_of-to.result
    (subst (Contains (targets c.args.self.now.subject.code.bytes.now (record { place = c.args.step.place; insn = c.args.step.insn }))) same c.requires.listed))

pub returns-in-Ok-clause-reached : goal.returns-in-Ok-clause-reached
returns-in-Ok-clause-reached c =
    let fits : FitsSigned w32 c.args.target = search rules in
    let same : c.args.target ≡ pos c.place_of-to.result = sym (c.place_of-to.ensures ∙ to_z-of_z w32 c.args.target fits) in
    let fr : ◌≡◌ {A = Frame} (record { regs = c.regs.result.now; stack = reverse c.stack.result.now }) c.args.step.after.now.frame = frame-is
    c.regs.result.now (reverse c.stack.result.now) c.args.step.after.now.frame c.regs.ensures c.stack.ensures.is in
    subst (IsAtTarget c.args.self.now.subject.world.now c.args.step.after.now.frame c.raise.new.table) (sym same)
    (subst (λ f. At (state_at c.raise.new.table.states) c.place_of-to.result (FrameBelow c.args.self.now.subject.world.now.classes f)) fr
    c.in-Ok.ensures.above)

pub returns-in-Err-clause-failed : goal.returns-in-Err-clause-failed
returns-in-Err-clause-failed c =
    let fits : FitsSigned w32 c.args.target = search rules in
    let same : c.args.target ≡ pos c.place_of-to.result = sym (c.place_of-to.ensures ∙ to_z-of_z w32 c.args.target fits) in
    let fr : ◌≡◌ {A = Frame} (record { regs = c.regs.result.now; stack = reverse c.stack.result.now }) c.args.step.after.now.frame = frame-is
    c.regs.result.now (reverse c.stack.result.now) c.args.step.after.now.frame c.regs.ensures c.stack.ensures.is in
    subst (IsFailure c.args.self.now.subject.world.now (analysed c.args.self.now)) (sym c.broken.ensures)
    (edge-broken c.args.self.now.subject.world.now c.requires.analysis.rules (analysed c.args.self.now) c.args.self.now.subject.there
    c.requires.analysis.control.formed c.args.step.place c.requires.step.from c.args.step.after.now.frame c.args.step.insn c.requires.step.here
    c.requires.step.stepped c.args.table.now c.requires.held c.place_of-to.result
    (jumped (subst (Contains (targets c.args.self.now.subject.code.bytes.now (record { place = c.args.step.place; insn = c.args.step.insn }))) same
    c.requires.listed)) c.in-Err.end
    (subst (λ f. Prevents c.args.self.now.subject.world.now.classes c.args.table.now c.place_of-to.result f c.in-Err.end) fr c.in-Err.ensures))
