use Rattle.std.proofs.Common.{length}
use Rattle.jc_base.proofs.Implementing.{implements-decides, extends-decides, extends-ends}
use Rattle.jc_base.proofs.laws.interfaces_decide.Goals as goal

pub returns-clause-implements : goal.returns-clause-implements
returns-clause-implements c = implements-decides c.args.world.now.classes c.classes.ensures.links.chains

pub returns-clause-ends : goal.returns-clause-ends
returns-clause-ends c =
    let w = c.args.world.now in
    extends-ends (length w.infos) w.classes w.methods c.classes.ensures.links.classes c.classes.ensures.links.extension

pub returns-clause-extends : goal.returns-clause-extends
returns-clause-extends c = extends-decides c.args.world.now.classes
