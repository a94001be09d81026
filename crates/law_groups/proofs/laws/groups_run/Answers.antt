use Rattle.law_groups.proofs.Running.{groups-run}
use Rattle.law_groups.proofs.laws.groups_run.Goals as goal

pub returns : goal.returns
returns c =
    groups-run c.args.world.now c.moves_run.ensures c.plain_groups_run.ensures.kept c.plain_groups_run.ensures.loads
    c.stores_in_groups.ensures.stores c.increments_in_groups.ensures c.fields_in_groups.ensures.reads c.writes_in_groups.ensures.writes
    c.branch_groups_run.ensures.gotos c.branch_groups_run.ensures.forks
