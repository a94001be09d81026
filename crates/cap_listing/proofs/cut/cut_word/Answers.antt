use Rattle.cap_listing.proofs.Words.{word-cut, word-whole}
use Rattle.cap_listing.proofs.Cuts.{cut-shorter}
use Rattle.cap_listing.proofs.cut.cut_word.Goals as goal

pub returns-in-Some-clause-first : goal.returns-in-Some-clause-first
returns-in-Some-clause-first c w ws plain e = word-cut c.args.words.now _ _ w ws c.in-Some.ensures.some plain e

pub returns-in-Some-clause-shorter : goal.returns-in-Some-clause-shorter
returns-in-Some-clause-shorter c h = cut-shorter 32 c.args.words.now _ _ c.in-Some.ensures.some

pub returns-in-None-clause-first : goal.returns-in-None-clause-first
returns-in-None-clause-first c w ws plain e = word-whole c.args.words.now w ws c.in-None.ensures.none e
