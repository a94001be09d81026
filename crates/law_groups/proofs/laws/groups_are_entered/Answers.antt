use Rattle.law_groups.proofs.Handling.{handler-enters}
use Rattle.law_groups.proofs.Returning.{call-returns}
use Rattle.law_groups.proofs.Starting.{start-enters}
use Rattle.law_groups.proofs.laws.groups_are_entered.Goals as goal

pub returns-clause-returns : goal.returns-clause-returns
returns-clause-returns c w s place laid z t i typed equal after = call-returns laid c.moves_run.ensures z t i typed equal after

pub returns-clause-handlers : goal.returns-clause-handlers
returns-clause-handlers c w s place laid z t n p h typed equal caught =
    handler-enters laid c.moves_run.ensures z t n p h typed equal caught

pub returns-clause-starts : goal.returns-clause-starts
returns-clause-starts c w s place laid z t args typed equal given from_here from_there =
    start-enters laid c.classes.ensures.links c.moves_run.ensures c.edges_run.ensures.starts z t args typed equal given from_here from_there
