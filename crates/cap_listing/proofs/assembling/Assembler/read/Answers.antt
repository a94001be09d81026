use Rattle.std.proofs.Common.{◌∙◌, sym, subst, Option}
use Rattle.std.specs.Prelude.{Bool, IfOk, MatchBool}
use Rattle.cap_listing.specs.declared.open_method.OpenMethod.{OpenMethod}
use Rattle.cap_listing.specs.Reading.{State}
use Rattle.cap_listing.specs.Fault.{IsReadLine, IsNoLine}
use Rattle.cap_listing.specs.Assembler.{state_of, state_by}
use Rattle.cap_listing.proofs.Added.{state-some}
use Rattle.cap_listing.proofs.assembling.Assembler.read.Goals as goal

pub returns-in-None-clause-cases : goal.returns-in-None-clause-cases
returns-in-None-clause-cases c =
    let o = c.args.self.now in
    let line = c.args.line.now in
    let same = c.take.ensures.after ∙ sym c.in-None.is ∙ c.take.ensures.value in
    subst
    (λ (b : Option OpenMethod).
    IfOk c.begin.result
    (λ (good : Bool).
    MatchBool good (IsReadLine (state_by o.methods.items b) line (state_of c.begin.new.self)) (IsNoLine (state_by o.methods.items b) line)))
    same c.begin.ensures.cases

pub returns-in-Some-clause-cases : goal.returns-in-Some-clause-cases
returns-in-Some-clause-cases c =
    let o = c.args.self.now in
    let line = c.args.line.now in
    subst
    (λ (s : State).
    IfOk c.go_on.result (λ (good : Bool). MatchBool good (IsReadLine s line (state_of c.go_on.new.self)) (IsNoLine s line)))
    (sym (state-some o.methods.items o.begun c.in-Some.method (sym c.take.ensures.value ∙ c.in-Some.is))) c.go_on.ensures.cases
