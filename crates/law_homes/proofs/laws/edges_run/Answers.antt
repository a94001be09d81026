use Rattle.law_homes.proofs.Celling.{cells-all-run, starts-hold}
use Rattle.law_homes.proofs.Edging.{edges-run}
use Rattle.law_homes.proofs.laws.edges_run.Goals as goal

pub returns-clause-locals : goal.returns-clause-locals
returns-clause-locals c w world = edges-run c.args.source.now w (c.premises_hold.ensures w world)

pub returns-clause-cells : goal.returns-clause-cells
returns-clause-cells c w world = cells-all-run c.args.source.now w (c.premises_hold.ensures w world)

pub returns-clause-starts : goal.returns-clause-starts
returns-clause-starts c =
    starts-hold c.args.source.now c.homes_serve.ensures
