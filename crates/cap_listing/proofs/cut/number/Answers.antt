use Rattle.std.proofs.Common.{◌≡◌, ◌∙◌, sym, subst, w32}
use Rattle.std.specs.Prelude.{FitsSigned}
use Rattle.std.proofs.lemmas.Int.{to_z-of_z}
use Rattle.cap_listing.proofs.Cuts.{number-parsed, parsed-same, signed-text}
use Rattle.cap_listing.proofs.cut.number.Goals as goal

pub returns-in-Ok-parse : goal.returns-in-Ok-parse
returns-in-Ok-parse c z h e =
    let read = number-parsed c.in-Ok.text.now c.parse.result z c.parse.ensures.value.0 h (c.in-Ok.ensures.cases.0 ∙ e) in
    let same : c.in-Ok-parse.number ≡ z = parsed-same c.parse.result c.in-Ok-parse.number z c.in-Ok-parse.is read in
    to_z-of_z w32 c.in-Ok-parse.number (subst (FitsSigned w32) (sym same) h) ∙ same

pub returns-in-Err-parse : goal.returns-in-Err-parse
returns-in-Err-parse c z h e =
    let read = number-parsed c.in-Ok.text.now c.parse.result z c.parse.ensures.value.0 h (c.in-Ok.ensures.cases.0 ∙ e) in
    let is = c.in-Err-parse.is in
    absurd cc

pub returns-in-Err : goal.returns-in-Err
returns-in-Err c z h e = absurd (c.in-Err.ensures.cases.0 (signed-text z c.args.word.now h e))
