-- a word that writes a number is read as that number, and prints as it stands
use Rattle.cap_listing.proofs.Cuts.{count-read}
use Rattle.cap_text.proofs.Numerals.{no_short}
use Rattle.cap_text.proofs.word.short_number.Goals as goal

pub returns-in_default-clause-none : goal.returns-in_default-clause-none
returns-in_default-clause-none c =
    no_short c.args.word.now c.parse.result c.in-Ok.n c.parse.ensures.value.0 c.in-Ok.is (let no = c.if-writes.ensures in no.1)

pub returns-in_default-2-clause-none : goal.returns-in_default-2-clause-none
returns-in_default-2-clause-none c = λ n fits w.
    let read = count-read c.args.word.now c.parse.result n c.parse.ensures.value.0 fits w in cc
