-- the Directory that was read is the one of the parts
use Rattle.std.proofs.Common.{sym, subst, ◌∙◌}
use Rattle.cap_components.specs.Openings.{GivesOpening}
use Rattle.capcheck_core.proofs.Loads.{sized_read}
use Rattle.capcheck_core.proofs.load.gives_size.Goals as goal

pub returns-in-Ok : goal.returns-in-Ok
returns-in-Ok c =
    c.has_size.ensures ∙ sym (sized_read c.args.first.now c.in-Ok.opening c.args.tag (subst (λ r. GivesOpening c.args.first.now r) c.in-Ok.is c.requires))
