use Rattle.std.proofs.Common.{◌∙◌, sym, ap}
use Rattle.std.proofs.lemmas.Bool.{false≢true}
use Rattle.jc_decode.specs.declared.symbols.LaidHandler.{LaidHandler}
use Rattle.cap_listing.specs.Words.{joined}
use Rattle.cap_listing.specs.Text.{handler_words}
use Rattle.cap_listing.proofs.recognized.handler_of.Goals as goal

pub returns-else-good-clause-none : goal.returns-else-good-clause-none
returns-else-good-clause-none c h fits e =
    let same = c.handler_in-handler.ensures.given h fits e in
    absurd (false≢true (sym c.if-good.false ∙ c.in_ok-good.ensures.1 (e ∙ ap (λ (x : LaidHandler). joined (handler_words x)) (sym same))))
