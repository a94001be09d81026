use Rattle.std.proofs.Common.{sym}
use Rattle.jc_base.proofs.Dispatches.{package_read}
use Rattle.jc_link.proofs.entries.package_of.Goals as goal

pub returns : goal.returns
returns c = sym (package_read c.args.classes.now c.args.class c.at.result.now c.at.ensures.is)
