-- the Directory that was read is the one of the parts
use Rattle.std.proofs.Common.{subst}
use Rattle.cap_components.specs.Openings.{GivesOpening}
use Rattle.capcheck_core.proofs.Loads.{ends_read}
use Rattle.capcheck_core.proofs.load.end_of.Goals as goal

pub returns-in-Ok : goal.returns-in-Ok
returns-in-Ok c =
    ends_read c.args.first.now c.in-Ok.opening c.end_after.result (subst (λ r. GivesOpening c.args.first.now r) c.in-Ok.is c.requires) c.end_after.ensures
