use Rattle.std.proofs.Common.{◌∙◌, ◌++◌, ◌∷◌, [], List, sym, ap, subst}
use Rattle.cap_listing.specs.declared.method.ListedMethod.{ListedMethod}
use Rattle.cap_listing.specs.Reading.{State}
use Rattle.cap_listing.specs.Fault.{IsReadLine, IsNoLine}
use Rattle.cap_listing.specs.Assembler.{inside}
use Rattle.cap_listing.proofs.Added.{state-none, end-read, match-at}
use Rattle.cap_listing.proofs.assembling.Assembler.go_on.Goals as goal

pub returns-then-is_end-clause-cases : goal.returns-then-is_end-clause-cases
returns-then-is_end-clause-cases c =
    let o = c.args.self.now in
    let m = c.args.method in
    let line = c.args.line.now in
    let done = o.methods.items in
    let more = c.in_ok-push.ensures.items ∙ ap (λ (x : ListedMethod). done ++ x ∷ []) c.end.ensures in
    subst (λ (s : State). IsReadLine (inside done m) line s) (sym (state-none c.push.new.self.items o.begun c.requires.none))
    (end-read done m.heading m.code.items m.handlers.items m.closed c.push.new.self.items line (c.is_end.ensures.0 c.if-is_end.true) more)

pub returns-clause-cases : goal.returns-clause-cases
returns-clause-cases c =
    let m = c.args.method in
    let line = c.args.line.now in
    match-at (λ (done : List ListedMethod). IsReadLine (inside done m) line (inside done c.read.new.self))
    (λ (done : List ListedMethod). IsNoLine (inside done m) line) c.in_ok-good.good c.in_ok-good.ensures.cases c.args.self.now.methods.items
