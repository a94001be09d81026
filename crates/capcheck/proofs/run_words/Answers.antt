-- what the command comes to over the machine's folders and standard output
use Rattle.capcheck.proofs.run_words.Goals as goal

pub returns : goal.returns
returns c =
    let a = c.capcheck.ensures.answered in
    record { before = _; after = _; verdict = a.0; answered = a.1; begun = _; ended = _; reported = a.2 }
