-- the text tells why no run of the entry begins
use Rattle.std.specs.Prelude.{string_bytes}
use Rattle.cap_text.specs.EntryWords.{entry_request}
use Rattle.cap_text.specs.Line.{not_started_line}
use Rattle.capcheck_core.specs.declared.verdict.Verdict.TheVariants.{Malformed}
use Rattle.capcheck_core.specs.Bounding.{AnswersBound}
use Rattle.xf_last.proofs.Passing.{all-carded}
use Rattle.capcheck_core.proofs.Verdicts.{said}
use Rattle.capcheck_core.proofs.bounding.not_begun.Goals as goal

pub returns : goal.returns
returns c =
    let w = c.args._accepted.now in
    let e = entry_request c.args._at.now in
    said string_bytes Malformed (AnswersBound w e) c.not_started.result (not_started_line c.args.fault) c.malformed.result (tt {0})
    (λ text prints.
    record { carded = all-carded w c.requires.accepted; fault = c.args.fault; first = c.requires.first; prints = prints })
    c.not_started.ensures c.malformed.ensures
