use Rattle.law_share.proofs.Retyping.{renumbered-apply}
use Rattle.law_share.proofs.sharing.renumbered_apply.Goals as goal

pub returns : goal.returns
returns c = renumbered-apply c.args.world.now c.footprint_laws.ensures.reads c.footprint_laws.ensures.one
