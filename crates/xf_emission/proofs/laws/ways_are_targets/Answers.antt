use Rattle.xf_emission.proofs.Ways.{ways-are-targets}
use Rattle.xf_emission.proofs.laws.ways_are_targets.Goals as goal

pub returns : goal.returns
returns c = ways-are-targets
