use Rattle.law_homes.proofs.Running.{kept-run-alike, loads-run-alike, increments-run-alike, stores-run-alike}
use Rattle.law_homes.proofs.laws.homes_run_alike.Goals as goal

pub returns-clause-kept : goal.returns-clause-kept
returns-clause-kept c = kept-run-alike

pub returns-clause-loads : goal.returns-clause-loads
returns-clause-loads c = loads-run-alike

pub returns-clause-increments : goal.returns-clause-increments
returns-clause-increments c = increments-run-alike

pub returns-clause-stores : goal.returns-clause-stores
returns-clause-stores c = stores-run-alike
