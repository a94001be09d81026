use Rattle.std.proofs.Common.{List, [], subst, sym, ◌∙◌}
use Rattle.jc_base.specs.declared.ty.Ty.{Ty}
use Rattle.jc_flow.specs.Progress.{IsHeld}
use Rattle.jc_flow.specs.Fails.{IsFailure}
use Rattle.jc_flow.specs.Visit.{analysed}
use Rattle.jc_flow.proofs.Beginning.{empty-held, start-held, begun-closed, begin-failed}
use Rattle.jc_flow.proofs.analysis.Analysis.begin.Goals as goal

pub raise-requires-clause-held : goal.raise-requires-clause-held
raise-requires-clause-held c = empty-held c.args.self.now.subject.world.now (analysed c.args.self.now) c.args.table.now c.requires.empty

pub raise-requires-clause-frame : goal.raise-requires-clause-frame
raise-requires-clause-frame c =
    subst (λ (xs : List Ty). IsHeld c.args.self.now.subject.world.now (analysed c.args.self.now) 0 (record { regs = xs; stack = [] }))
    (sym (c.as_slice.ensures.value ∙ c.in-Ok.ensures))
    (start-held c.args.self.now.subject.world.now (analysed c.args.self.now) c.requires.analysis.rules.placed c.args.self.now.subject.there
    c.requires.analysis.control.formed)

pub returns-in-Ok-raise-clause-closed : goal.returns-in-Ok-raise-clause-closed
returns-in-Ok-raise-clause-closed c =
    begun-closed c.args.self.now.subject.world.now (analysed c.args.self.now) c.args.table.now c.raise.new.table c.requires.empty c.in-Ok-raise.ensures.goes

pub returns-clause-failed : goal.returns-clause-failed
returns-clause-failed c =
    subst (IsFailure c.args.self.now.subject.world.now (analysed c.args.self.now)) (sym c.broken.ensures)
    (begin-failed c.args.self.now.subject.world.now (analysed c.args.self.now) c.args.table.now (record { regs = c.as_slice.result.now; stack = [] })
    c.in-Err-raise.end c.requires.empty c.in-Err-raise.ensures)
