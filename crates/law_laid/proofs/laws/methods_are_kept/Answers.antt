use Rattle.law_laid.proofs.SameBut.{methods-are-kept}
use Rattle.law_laid.proofs.laws.methods_are_kept.Goals as goal

pub returns : goal.returns
returns c = methods-are-kept
