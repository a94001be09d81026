use Rattle.law_package.proofs.Again.{stands_again}
use Rattle.law_package.proofs.rewritten_package.rewritten_is_a_package.Goals as goal

pub returns : goal.returns
returns c = stands_again
