-- what stands before and after the full stop of an entry's word are its numbers
use Rattle.std.specs.Prelude.{Some, None}
use Rattle.cap_text.proofs.Entries.{halves}
use Rattle.cap_text.proofs.entry.Entry.read.Goals as goal

pub returns-in_err-class_no-clause-none : goal.returns-in_err-class_no-clause-none
returns-in_err-class_no-clause-none c = rw (c.from_residual.ensures) λ e w. halves c.args.word.now e None c.in_err-class_no.ensures.cases w

pub returns-in_err-short_number-clause-none : goal.returns-in_err-short_number-clause-none
returns-in_err-short_number-clause-none c = rw (c.from_residual-in_err-short_number.ensures) λ e w.
    let parts = halves c.args.word.now e (Some (c.in_ok-class_no.class_no, c.in_ok-class_no.method_no)) c.in_ok-class_no.ensures.cases w in
    c.in_err-short_number.ensures.none e.class_no w.class_fits parts.0

pub returns-in_err-short_number-2-clause-none : goal.returns-in_err-short_number-2-clause-none
returns-in_err-short_number-2-clause-none c = rw (c.from_residual-in_err-short_number-2.ensures) λ e w.
    let parts = halves c.args.word.now e (Some (c.in_ok-class_no.class_no, c.in_ok-class_no.method_no)) c.in_ok-class_no.ensures.cases w in
    c.in_err-short_number-2.ensures.none e.method_no w.method_fits parts.1
