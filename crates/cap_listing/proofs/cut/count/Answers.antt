use Rattle.std.proofs.Common.{◌∙◌}
use Rattle.cap_listing.proofs.Cuts.{count-read, decimal-text}
use Rattle.cap_listing.proofs.cut.count.Goals as goal

pub returns-in-Ok : goal.returns-in-Ok
returns-in-Ok c n h e =
    let read = count-read c.in-Ok.text.now c.parse.result n c.parse.ensures.value.0 h (c.in-Ok.ensures.cases.0 ∙ e) in
    let is = c.unwrap_or.ensures in
    cc

pub returns-in-Err : goal.returns-in-Err
returns-in-Err c n h e = absurd (c.in-Err.ensures.cases.0 (decimal-text n c.args.word.now h e))
