use Rattle.std.proofs.Common.{◌∙◌, sym, ap}
use Rattle.std.proofs.lemmas.Bool.{false≢true}
use Rattle.cap_listing.specs.declared.method.Heading.{Heading}
use Rattle.cap_listing.specs.Words.{joined}
use Rattle.cap_listing.specs.Text.{heading_words}
use Rattle.cap_listing.proofs.recognized.heading_of.Goals as goal

pub returns-else-good-clause-none : goal.returns-else-good-clause-none
returns-else-good-clause-none c m is e =
    let same = c.heading_in-heading.ensures.given m is e in
    absurd (false≢true (sym c.if-good.false ∙ c.in_ok-good.ensures.1 (e ∙ ap (λ (h : Heading). joined (heading_words h)) (sym same))))
