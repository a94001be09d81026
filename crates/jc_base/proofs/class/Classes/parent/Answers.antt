use Rattle.jc_base.proofs.Chains.{parent_read, parent_climbs, parent_ends}
use Rattle.jc_base.proofs.class.Classes.parent.Goals as goal

pub returns-clause-is : goal.returns-clause-is
returns-clause-is c = parent_read c.args.self.now c.args.c c.at.result.now c.requires c.at.ensures.is

pub returns-clause-climbs : goal.returns-clause-climbs
returns-clause-climbs c = parent_climbs c.args.self.now c.args.c c.at.result.now c.at.ensures.chains c.requires c.at.ensures.is

pub returns-clause-ends : goal.returns-clause-ends
returns-clause-ends c = parent_ends c.args.self.now c.args.c c.at.result.now c.at.ensures.chains c.requires c.at.ensures.is
