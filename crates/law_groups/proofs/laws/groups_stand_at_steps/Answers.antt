use Rattle.law_groups.proofs.Placing.{groups-follow, groups-stand-at-steps, handlers-stand-at-steps, stubs-stand-at-steps}
use Rattle.law_groups.proofs.Starting.{starts-stand}
use Rattle.law_groups.proofs.laws.groups_stand_at_steps.Goals as goal

pub returns-clause-groups : goal.returns-clause-groups
returns-clause-groups c = groups-stand-at-steps

pub returns-clause-stubs : goal.returns-clause-stubs
returns-clause-stubs c = stubs-stand-at-steps

pub returns-clause-handlers : goal.returns-clause-handlers
returns-clause-handlers c = handlers-stand-at-steps

pub returns-clause-follow : goal.returns-clause-follow
returns-clause-follow c = groups-follow

pub returns-clause-starts : goal.returns-clause-starts
returns-clause-starts c = starts-stand
