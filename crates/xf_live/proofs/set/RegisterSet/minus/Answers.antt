use Rattle.std.proofs.Common.{rules}
use Rattle.xf_live.proofs.Sets.{minus-is}
use Rattle.xf_live.proofs.set.RegisterSet.minus.Goals as goal

pub returns : goal.returns
returns c = minus-is c.args.self c.args.other (record { first = search rules; second = search rules; third = search rules; fourth = search rules })
