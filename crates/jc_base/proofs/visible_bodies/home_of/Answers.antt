use Rattle.jc_base.proofs.Dispatches.{package_read}
use Rattle.std.proofs.Common.{sym}
use Rattle.jc_base.proofs.visible_bodies.home_of.Goals as goal

pub returns-clause-is : goal.returns-clause-is
returns-clause-is c = sym (package_read c.args.classes.now c.args.class c.record.result.now c.record.ensures.is)
