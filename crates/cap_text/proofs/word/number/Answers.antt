-- a word that writes a number is read as that number, and prints as it stands
use Rattle.cap_text.proofs.Numerals.{number_is_read, no_number}
use Rattle.cap_text.proofs.word.number.Goals as goal

pub returns-in_default-clause-none : goal.returns-in_default-clause-none
returns-in_default-clause-none c =
    no_number c.args.word.now c.parse.result c.in-Ok.n c.parse.ensures.value.0 c.in-Ok.is (let no = c.if-writes.ensures in no.1)

pub returns-in_default-2-clause-none : goal.returns-in_default-2-clause-none
returns-in_default-2-clause-none c = λ n w.
    let read = number_is_read c.args.word.now c.parse.result n c.parse.ensures.value.0 w in cc
