use Rattle.law_homes.proofs.Few.{cells-are-few, copies-are-few, kept-stacks-stay}
use Rattle.law_homes.proofs.laws.moves_are_few.Goals as goal

pub returns-clause-cells : goal.returns-clause-cells
returns-clause-cells c = cells-are-few c.args.source.now c.edges_carry.ensures.cells

pub returns-clause-copies : goal.returns-clause-copies
returns-clause-copies c = copies-are-few c.args.source.now c.types_are_ordered.ensures.same c.needed_are_kept.ensures c.edges_carry.ensures.needed

pub returns-clause-stacks : goal.returns-clause-stacks
returns-clause-stacks c w world = kept-stacks-stay c.args.source.now w (c.premises_hold.ensures w world)
