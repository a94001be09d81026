use Rattle.xf_homes.proofs.Needed.{needed-are-kept}
use Rattle.xf_homes.proofs.laws.needed_are_kept.Goals as goal

pub returns : goal.returns
returns c = needed-are-kept c.types_are_ordered.ensures.same
