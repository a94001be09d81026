use Rattle.law_laid.proofs.SameBut.{card-typings-are-kept, flow-typings-are-kept, symbol-typings-are-kept}
use Rattle.law_laid.proofs.laws.typings_are_kept.Goals as goal

pub returns-clause-card : goal.returns-clause-card
returns-clause-card c = card-typings-are-kept

pub returns-clause-symbols : goal.returns-clause-symbols
returns-clause-symbols c = symbol-typings-are-kept

pub returns-clause-flow : goal.returns-clause-flow
returns-clause-flow c = flow-typings-are-kept
