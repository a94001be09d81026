use Rattle.std.proofs.Common.{◌∷◌}
use Rattle.cap_listing.proofs.recognized.second_word.Goals as goal

pub returns : goal.returns
returns c v w ws p q e = c.cut_word-2.ensures.first w ws q (c.cut_word.ensures.first v (w ∷ ws) p e).1
