use Rattle.capcheck_core.proofs.Complete.{completes}
use Rattle.capcheck_core.proofs.Promised.{promises}
use Rattle.capcheck_core.proofs.call.in_card.Goals as goal

pub returns-clause-promised : goal.returns-clause-promised
returns-clause-promised g c = promises _ _ _ _ _ c.answer-verdict.result _ c.answer-verdict.ensures.is c.report.ensures

pub returns-clause-complete : goal.returns-clause-complete
returns-clause-complete g c = completes _ _ _ _ _ c.answer-verdict.result _ c.answer-verdict.ensures.is c.report.ensures
