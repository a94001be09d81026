-- a word that writes an argument is read as that argument, and prints as it stands
use Rattle.cap_text.proofs.Numerals.{no_argument, nothing_read}
use Rattle.cap_text.proofs.word.number_or_null.Goals.{in_default-via-in-Ok+else-writes, in_default-via-in_default}
use Rattle.cap_text.proofs.word.number_or_null.Goals as goal

pub returns-in_default-clause-none : goal.returns-in_default-clause-none
returns-in_default-clause-none c =
    elim c.in_default.branch [
      | in_default-via-in-Ok+else-writes w ↦
          no_argument c.args.word.now c.parse.result w.in-Ok.z c.parse.ensures.value.0 w.in-Ok.is (let no = w.if-writes.ensures in no.1) c.if-eq.ensures
          c.requires
      | in_default-via-in_default w ↦
          nothing_read c.args.word.now c.parse.result w.in_default.field-0 c.parse.ensures.value.0 w.in_default.is c.if-eq.ensures c.requires
    ]
