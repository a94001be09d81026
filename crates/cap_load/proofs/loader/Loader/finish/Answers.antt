use Rattle.std.proofs.Common.{Err, rules}
use Rattle.cap_load.specs.declared.fault.FinishEnd.TheVariants.{Fault}
use Rattle.cap_load.proofs.Ends.{gives}
use Rattle.cap_load.proofs.loader.Loader.finish.Goals as goal

pub returns-in-Some-clause-only : goal.returns-in-Some-clause-only
returns-in-Some-clause-only c = λ bytes parts s w. gives c.args.self.now (Err (Fault c.in-Some.fault)) bytes parts (search rules) s w

pub returns-in-None-clause-only : goal.returns-in-None-clause-only
returns-in-None-clause-only c = λ bytes parts s w. gives _ _ bytes parts c.end.ensures s w
