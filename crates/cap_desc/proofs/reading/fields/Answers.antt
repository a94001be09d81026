-- They are taken in one piece.
use Rattle.std.proofs.Common.{[]}
use Rattle.std.proofs.lemmas.Result.{err_from_is_err_and}
use Rattle.cap_desc.proofs.Widths.{taken-width, fails-width}
use Rattle.cap_desc.proofs.MemberWidths.{fields_width}
use Rattle.cap_desc.proofs.reading.fields.Goals as goal

pub returns-in_err-piece : goal.returns-in_err-piece
returns-in_err-piece c =
    let p = err_from_is_err_and c.from_residual.result c.from_residual.ensures.1 in
    rw (p.1, p.2) (fails-width _ _ _ _ (fields_width c.args.left) c.in_err-piece.ensures.value)

pub invariant_of-result : goal.invariant_of-result
invariant_of-result c = record { known = (taken-width _ _ [] _ _ _ (fields_width c.args.left) c.in_ok-piece.ensures.value).1 }

pub returns : goal.returns
returns c = (taken-width _ _ [] _ _ _ (fields_width c.args.left) c.in_ok-piece.ensures.value).0
