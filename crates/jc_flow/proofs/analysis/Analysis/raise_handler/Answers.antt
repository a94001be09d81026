use Rattle.std.proofs.Common.{List, ◌∷◌, [], subst, sym}
use Rattle.jc_base.specs.declared.ty.Ty.{Ty}
use Rattle.jc_base.specs.declared.ty.Ty.TheVariants.{Class}
use Rattle.jc_flow.specs.Found.{Prevents}
use Rattle.jc_flow.specs.Progress.{IsHeld}
use Rattle.jc_flow.specs.Fails.{IsFailure}
use Rattle.jc_flow.specs.Visit.{analysed}
use Rattle.jc_flow.proofs.Leading.{goes-same, caught-held, no-room, caught-broken}
use Rattle.jc_flow.proofs.Visits.{kept-here, kept-stepped}
use Rattle.jc_flow.proofs.analysis.Analysis.raise_handler.Goals as goal

pub returns-then-not-covers-clause-goes : goal.returns-then-not-covers-clause-goes
returns-then-not-covers-clause-goes c =
    goes-same c.args.self.now.subject.world.now c.requires.analysis.rules.order (analysed c.args.self.now) c.args.table.now c.requires.held

pub returns-then-self-eq0-clause-failed : goal.returns-then-self-eq0-clause-failed
returns-then-self-eq0-clause-failed c =
    no-room c.args.self.now.subject.world.now c.requires.analysis.rules (analysed c.args.self.now) c.args.self.now.subject.there
    c.requires.analysis.control.formed c.args.step.place c.args.step.before.now.frame c.args.step.after.now.frame c.args.step.insn
    (kept-here c.args.self.now.subject.world.now (analysed c.args.self.now) c.args.step c.requires.step c.args.handler c.requires.listed)
    (kept-stepped c.args.self.now.subject.world.now (analysed c.args.self.now) c.args.step c.requires.step c.args.handler c.requires.listed) c.args.handler
    c.requires.listed c.if-not-covers.ensures c.if-self-eq0.true

pub raise-requires-clause-frame : goal.raise-requires-clause-frame
raise-requires-clause-frame c =
    subst
    (λ (xs : List Ty). IsHeld c.args.self.now.subject.world.now (analysed c.args.self.now) c.args.handler.entry
    (record { regs = xs; stack = Class c.args.handler.class ∷ [] })) (sym c.regs.ensures)
    (caught-held c.args.self.now.subject.world.now c.requires.analysis.rules (analysed c.args.self.now) c.args.self.now.subject.there
    c.requires.analysis.control.formed c.args.step.place c.args.step.before.now.frame c.args.step.after.now.frame c.args.step.insn
    (kept-here c.args.self.now.subject.world.now (analysed c.args.self.now) c.args.step c.requires.step c.args.handler c.requires.listed)
    (kept-stepped c.args.self.now.subject.world.now (analysed c.args.self.now) c.args.step c.requires.step c.args.handler c.requires.listed) c.args.handler
    c.requires.listed c.if-not-covers.ensures c.if-self-eq0.false)

pub returns-in-Err-clause-failed : goal.returns-in-Err-clause-failed
returns-in-Err-clause-failed c =
    subst (IsFailure c.args.self.now.subject.world.now (analysed c.args.self.now)) (sym c.broken.ensures)
    (caught-broken c.args.self.now.subject.world.now c.requires.analysis.rules (analysed c.args.self.now) c.args.self.now.subject.there
    c.requires.analysis.control.formed c.args.step.place c.args.step.before.now.frame c.args.step.after.now.frame c.args.step.insn
    (kept-here c.args.self.now.subject.world.now (analysed c.args.self.now) c.args.step c.requires.step c.args.handler c.requires.listed)
    (kept-stepped c.args.self.now.subject.world.now (analysed c.args.self.now) c.args.step c.requires.step c.args.handler c.requires.listed) c.args.table.now
    c.requires.held c.args.handler c.requires.listed c.if-not-covers.ensures c.in-Err.end
    (subst
    (λ (xs : List Ty). Prevents c.args.self.now.subject.world.now.classes c.args.table.now c.args.handler.entry
    (record { regs = xs; stack = Class c.args.handler.class ∷ [] }) c.in-Err.end) c.regs.ensures c.in-Err.ensures))
