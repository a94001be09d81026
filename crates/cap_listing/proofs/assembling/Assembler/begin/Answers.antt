use Rattle.std.proofs.Common.{◌≡◌, sym, subst}
use Rattle.cap_listing.specs.Words.{joined}
use Rattle.cap_listing.specs.Text.{IsHeading, heading_words}
use Rattle.cap_listing.specs.Reading.{State}
use Rattle.cap_listing.specs.Fault.{IsReadLine}
use Rattle.cap_listing.specs.Assembler.{between, inside}
use Rattle.cap_listing.proofs.Added.{some-of, state-none, head-read}
use Rattle.cap_listing.proofs.assembling.Assembler.begin.Goals as goal

pub returns-clause-cases : goal.returns-clause-cases
returns-clause-cases c =
    let o = c.args.self.now in
    let line = c.args.line.now in
    let done = o.methods.items in
    let found = some-of c.in_ok-heading.field-0 c.in-Some.heading c.in-Some.is (λ h. IsHeading h × (line ≡ joined (heading_words h)))
    c.in_ok-heading.ensures.found in
    subst (λ (s : State). IsReadLine s line (inside done c.new.result)) (sym (state-none done o.begun c.requires))
    (subst (λ (s : State). IsReadLine (between done) line s) (sym (c.new.ensures.fresh done))
    (head-read done c.in-Some.heading line found.0 found.1))
