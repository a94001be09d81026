use Rattle.law_homes.proofs.Operands.{operands-all-load, under-all-hold, under-all-load}
use Rattle.law_homes.proofs.laws.operands_load.Goals as goal

pub returns-clause-operands : goal.returns-clause-operands
returns-clause-operands c w world = operands-all-load c.args.source.now w (c.premises_hold.ensures w world) c.edges_carry.ensures.cuts

pub returns-clause-under : goal.returns-clause-under
returns-clause-under c w world = under-all-load c.args.source.now w (c.premises_hold.ensures w world) c.edges_carry.ensures.cuts

pub returns-clause-holds : goal.returns-clause-holds
returns-clause-holds c w world = under-all-hold c.args.source.now w (c.premises_hold.ensures w world) c.edges_carry.ensures.cuts
