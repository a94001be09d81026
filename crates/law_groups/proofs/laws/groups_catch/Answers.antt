use Rattle.law_groups.proofs.Catching.{groups-catch}
use Rattle.law_groups.proofs.Returning.{calls-end}
use Rattle.law_groups.proofs.laws.groups_catch.Goals as goal

pub returns-clause-ends : goal.returns-clause-ends
returns-clause-ends c = calls-end c.args.world.now

pub returns-clause-catches : goal.returns-clause-catches
returns-clause-catches c = groups-catch c.args.world.now
