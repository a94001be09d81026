-- a source whose run does not begin is told so, though its package has a form that a verifier on the card accepts
use Rattle.std.proofs.Common.{subst}
use Rattle.std.specs.Prelude.{Err, string_bytes}
use Rattle.cap_text.specs.Line.{not_started_line}
use Rattle.cap_text.specs.Run.{run_request}
use Rattle.capcheck_core.specs.declared.verdict.Verdict.TheVariants.{Malformed}
use Rattle.capcheck_core.specs.Defend.{RunsOrRefuses}
use Rattle.capcheck_core.specs.LentCard.{words_of}
use Rattle.capcheck_core.specs.Trial.{TriesIn}
use Rattle.capcheck_core.proofs.Verdicts.{said}
use Rattle.capcheck_core.proofs.trying.try_made.Goals as goal

pub returns-in-Err-Fault-clause-tries : goal.returns-in-Err-Fault-clause-tries
returns-in-Err-Fault-clause-tries c =
    let m = c.args.made.now in
    let r = run_request c.args.run.now in
    let fault = c.in-Err-Fault.fault in
    let first = subst (λ end. RunsOrRefuses m.world.now r (Err end)) c.in-Err-Fault.field-0-is c.in-Err-Fault.ensures in
    said string_bytes Malformed (TriesIn m.packages.now m.roles m.world.now r (words_of c.args.card.now)) c.not_started.result
    (not_started_line fault) c.malformed.result (tt {0})
    (λ t prints. record {
      parts = m.parts.now;
      made = c.requires.made;
      unbegun = record { fault = fault; first = first; prints = prints };
    })
    c.not_started.ensures c.malformed.ensures
