use Rattle.law_rewritten_typing.proofs.EdgeHomes.{needed-have-homes, cells-fill-stack, edges-carry}
use Rattle.law_rewritten_typing.proofs.ForkHomes.{forks-are-cut, forks-match}
use Rattle.law_rewritten_typing.proofs.laws.edges_carry.Goals as goal

pub returns-clause-needed : goal.returns-clause-needed
returns-clause-needed c = needed-have-homes c.args.world.now c.premises_hold.ensures

pub returns-clause-cells : goal.returns-clause-cells
returns-clause-cells c = cells-fill-stack c.args.world.now c.premises_hold.ensures

pub returns-clause-edges : goal.returns-clause-edges
returns-clause-edges c = edges-carry c.args.world.now c.premises_hold.ensures

pub returns-clause-cuts : goal.returns-clause-cuts
returns-clause-cuts c = forks-are-cut c.args.world.now c.premises_hold.ensures

pub returns-clause-matches : goal.returns-clause-matches
returns-clause-matches c = forks-match c.args.world.now c.premises_hold.ensures
