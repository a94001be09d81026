use Rattle.xf_emission.proofs.Live.{live-are-kept}
use Rattle.xf_emission.proofs.laws.live_are_kept.Goals as goal

pub returns : goal.returns
returns c = live-are-kept c.instructions_are_listed.ensures
