use Rattle.std.proofs.Common.{rules}
use Rattle.xf_live.proofs.Sets.{union-is, union-rises, union-small}
use Rattle.xf_live.proofs.set.RegisterSet.union.Goals as goal

pub returns-clause-is : goal.returns-clause-is
returns-clause-is c = union-is c.args.self c.args.other

pub returns-clause-rises : goal.returns-clause-rises
returns-clause-rises c = union-rises c.args.self c.args.other

pub returns-clause-small : goal.returns-clause-small
returns-clause-small c = union-small c.args.self c.args.other
    (record { first = search rules; second = search rules; third = search rules; fourth = search rules })
    (record { first = search rules; second = search rules; third = search rules; fourth = search rules })
