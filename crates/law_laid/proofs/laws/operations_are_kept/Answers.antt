use Rattle.law_laid.proofs.SameBut.{demands-are-kept, operations-are-kept}
use Rattle.law_laid.proofs.laws.operations_are_kept.Goals as goal

pub returns-clause-operations : goal.returns-clause-operations
returns-clause-operations c = operations-are-kept

pub returns-clause-demands : goal.returns-clause-demands
returns-clause-demands c = demands-are-kept
