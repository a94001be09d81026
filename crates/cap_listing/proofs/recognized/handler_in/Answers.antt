use Rattle.cap_listing.proofs.Candidates.{handler-read}
use Rattle.cap_listing.proofs.recognized.handler_in.Goals as goal

pub returns-clause-given : goal.returns-clause-given
returns-clause-given c =
    handler-read c.args.line.now _ _ _ _ _ _ _ _ _ _ _ _ _ c.second_word.ensures c.cut_word.ensures.first c.cut_word-2.ensures.first
    c.cut_word-3.ensures.first c.count-start.ensures c.count.ensures c.saturating_sub-length.ensures c.count-entry.ensures
    c.count-pool.ensures
