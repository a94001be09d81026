use Rattle.law_homes.proofs.Homes.{homes-stay, locals-stay, written-hold}
use Rattle.law_homes.proofs.laws.homes_hold.Goals as goal

pub returns-clause-locals : goal.returns-clause-locals
returns-clause-locals c = locals-stay

pub returns-clause-apart : goal.returns-clause-apart
returns-clause-apart c = homes-stay

pub returns-clause-written : goal.returns-clause-written
returns-clause-written c = written-hold
