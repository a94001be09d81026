use Rattle.jc_base.proofs.Chains.{interface_read}
use Rattle.jc_base.proofs.class.Classes.is_interface.Goals as goal

pub returns : goal.returns
returns c = interface_read _ _ _ c.at.ensures.is
