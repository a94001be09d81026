use Rattle.law_share.proofs.Allotting.{variables-are-one, allotment-is-one, registers-have-numbers, registers-are-no-more}
use Rattle.law_share.proofs.sharing.sharing_is_one.Goals as goal

pub returns-clause-variables : goal.returns-clause-variables
returns-clause-variables c = variables-are-one

pub returns-clause-allotted : goal.returns-clause-allotted
returns-clause-allotted c = allotment-is-one

pub returns-clause-numbers : goal.returns-clause-numbers
returns-clause-numbers c = registers-have-numbers

pub returns-clause-fewer : goal.returns-clause-fewer
returns-clause-fewer c = registers-are-no-more
