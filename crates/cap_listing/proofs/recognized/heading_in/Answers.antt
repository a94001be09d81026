use Rattle.cap_listing.proofs.Candidates.{heading-read}
use Rattle.cap_listing.proofs.recognized.heading_in.Goals as goal

pub returns-clause-given : goal.returns-clause-given
returns-clause-given c =
    heading-read c.args.line.now _ _ _ _ _ _ _ _ _ _ _ _ _ c.second_word.ensures c.second_word-2.ensures c.second_word-3.ensures
    c.second_word-4.ensures c.name_in-class_no.ensures c.byte-max_stack.ensures c.byte-nargs.ensures c.byte-max_locals.ensures
