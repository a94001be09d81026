use Rattle.law_laid.proofs.Catching.{catches-by-pool}
use Rattle.law_laid.proofs.laws.catches_by_pool.Goals as goal

pub returns : goal.returns
returns c = catches-by-pool
