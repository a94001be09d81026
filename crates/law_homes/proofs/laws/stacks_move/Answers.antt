use Rattle.law_homes.proofs.Leading.{leaders-load}
use Rattle.law_homes.proofs.Spilling.{stacks-spill}
use Rattle.law_homes.proofs.laws.stacks_move.Goals as goal

pub returns-clause-loads : goal.returns-clause-loads
returns-clause-loads c w world = leaders-load c.args.source.now w (c.premises_hold.ensures w world)

pub returns-clause-stores : goal.returns-clause-stores
returns-clause-stores c w world = stacks-spill c.args.source.now w (c.premises_hold.ensures w world)
