use Rattle.std.proofs.Common.{◌≡◌, ◌+◌, reverse, ap, subst, sym}
use Rattle.jc_rules.specs.Demand.{Frame}
use Rattle.jc_control.specs.Control.{IsLeader, falls_through}
use Rattle.jc_rules.specs.Flow.{IsNotFresh}
use Rattle.jc_flow.specs.Found.{Prevents}
use Rattle.jc_flow.specs.Progress.{IsHeld}
use Rattle.jc_flow.specs.Fails.{IsFailure}
use Rattle.jc_flow.specs.Visit.{analysed}
use Rattle.jc_flow.proofs.Steps.{all-of_slice, all-to_slice}
use Rattle.jc_flow.proofs.Leading.{frame-is, goes-same, next-held, next-fresh, edge-broken}
use Rattle.jc_flow.proofs.analysis.Analysis.raise_next.Goals as goal

pub returns-then-not-falls-clause-goes : goal.returns-then-not-falls-clause-goes
returns-then-not-falls-clause-goes c =
    goes-same c.args.self.now.subject.world.now c.requires.analysis.rules.order (analysed c.args.self.now) c.args.table.now c.requires.held

pub returns-then-keeps_fresh-clause-failed : goal.returns-then-keeps_fresh-clause-failed
returns-then-keeps_fresh-clause-failed c =
    let at : c.from.result + c.args.step.insn.len ≡ c.args.step.place + c.args.step.insn.len = ap (λ n. n + c.args.step.insn.len) c.from.ensures in
    next-fresh c.args.self.now.subject.world.now c.requires.analysis.rules (analysed c.args.self.now) c.args.self.now.subject.there
    c.requires.analysis.control.formed
    c.args.step.place c.requires.step.from c.args.step.after.now.frame c.args.step.insn c.requires.step.here c.requires.step.stepped
    (sym c.if-not-falls.ensures) (subst (IsLeader (analysed c.args.self.now)) at c.if-keeps_fresh.ensures.0)
    (λ all. c.if-keeps_fresh.ensures.1 (all-to_slice IsNotFresh c.stack.result.now c.args.step.after.now.frame.stack c.stack.ensures.is all))

pub raise-requires-clause-frame : goal.raise-requires-clause-frame
raise-requires-clause-frame c =
    let at : c.from.result + c.args.step.insn.len ≡ c.args.step.place + c.args.step.insn.len = ap (λ n. n + c.args.step.insn.len) c.from.ensures in
    let fr : ◌≡◌ {A = Frame} (record { regs = c.regs.result.now; stack = reverse c.stack-2.result.now }) c.args.step.after.now.frame = frame-is
    c.regs.result.now (reverse c.stack-2.result.now) c.args.step.after.now.frame c.regs.ensures c.stack-2.ensures.is in
    subst (λ f. IsHeld c.args.self.now.subject.world.now (analysed c.args.self.now) (c.from.result + c.args.step.insn.len) f) (sym fr)
    (subst (λ q. IsHeld c.args.self.now.subject.world.now (analysed c.args.self.now) q c.args.step.after.now.frame) (sym at)
    (next-held c.args.self.now.subject.world.now c.requires.analysis.rules (analysed c.args.self.now) c.args.self.now.subject.there
    c.requires.analysis.control.formed
    c.args.step.place c.requires.step.from c.args.step.after.now.frame c.args.step.insn c.requires.step.here c.requires.step.stepped
    (sym c.if-not-falls.ensures)
    (λ l. all-of_slice IsNotFresh c.stack.result.now c.args.step.after.now.frame.stack c.stack.ensures.is
    (c.if-keeps_fresh.ensures (subst (IsLeader (analysed c.args.self.now)) (sym at) l)))))

pub returns-in-Err-clause-failed : goal.returns-in-Err-clause-failed
returns-in-Err-clause-failed c =
    let at : c.from.result + c.args.step.insn.len ≡ c.args.step.place + c.args.step.insn.len = ap (λ n. n + c.args.step.insn.len) c.from.ensures in
    let fr : ◌≡◌ {A = Frame} (record { regs = c.regs.result.now; stack = reverse c.stack-2.result.now }) c.args.step.after.now.frame = frame-is
    c.regs.result.now (reverse c.stack-2.result.now) c.args.step.after.now.frame c.regs.ensures c.stack-2.ensures.is in
    subst (IsFailure c.args.self.now.subject.world.now (analysed c.args.self.now)) (sym c.broken.ensures)
    (edge-broken c.args.self.now.subject.world.now c.requires.analysis.rules (analysed c.args.self.now) c.args.self.now.subject.there
    c.requires.analysis.control.formed c.args.step.place c.requires.step.from c.args.step.after.now.frame c.args.step.insn c.requires.step.here
    c.requires.step.stepped c.args.table.now c.requires.held (c.args.step.place + c.args.step.insn.len) (falls_through (sym c.if-not-falls.ensures))
    c.in-Err.end
    (subst (λ q. Prevents c.args.self.now.subject.world.now.classes c.args.table.now q c.args.step.after.now.frame c.in-Err.end) at
    (subst (λ f. Prevents c.args.self.now.subject.world.now.classes c.args.table.now (c.from.result + c.args.step.insn.len) f c.in-Err.end) fr
    c.in-Err.ensures)))
