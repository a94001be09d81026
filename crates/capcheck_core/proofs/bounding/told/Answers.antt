-- the text tells the bound of the entry
use Rattle.std.proofs.Common.{subst}
use Rattle.std.specs.Prelude.{◌≡◌, IfOk, string_bytes}
use Rattle.cap_text.specs.EntryWords.{entry_request}
use Rattle.capcheck_core.specs.declared.verdict.Verdict.TheVariants.{Done}
use Rattle.capcheck_core.specs.Bounding.{bound_text, AnswersBound}
use Rattle.law_sound.specs.Soundness.{TypedCodeIsFaultFree}
use Rattle.xf_last.proofs.Passing.{all-carded}
use Rattle.capcheck_core.proofs.Cardings.{accepted_free}
use Rattle.capcheck_core.proofs.Verdicts.{said}
use Rattle.capcheck_core.proofs.bounding.told.Goals as goal

pub returns-in-Ok : goal.returns-in-Ok
returns-in-Ok c =
    let w = c.args.accepted.now in
    let e = entry_request c.args.at.now in
    said string_bytes Done (AnswersBound w e) c.bound_line.result (bound_text w c.in-Ok.found) c.done.result (tt {0})
    (λ text prints.
    record {
      carded = all-carded w c.requires.accepted;
      fault_free = accepted_free w c.requires.accepted (subst TypedCodeIsFaultFree c.world-world.ensures.is c.typed_code_never_fails.ensures.fault_free);
      number = c.args.number;
      entered = c.requires.entered;
      begins = c.in-Ok.ensures.begins;
      bound = c.in-Ok.found;
      is = c.in-Ok.ensures.answer;
      runs = c.in-Ok.ensures.runs;
      prints = prints;
    })
    (subst (λ v. IfOk c.bound_line.result (λ text. string_bytes text ≡ bound_text v c.in-Ok.found)) c.world-world.ensures.is c.bound_line.ensures)
    c.done.ensures
