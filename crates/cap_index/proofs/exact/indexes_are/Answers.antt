use Rattle.cap_index.proofs.Listed.{are-indexes}
use Rattle.cap_index.proofs.exact.indexes_are.Goals as goal

pub returns : goal.returns
returns c = λ ps ms. are-indexes ps ms
