use Rattle.cap_load.proofs.OneFile.{short_not_long}
use Rattle.cap_load.proofs.laws.short_not_long.Goals as goal

pub returns : goal.returns
returns c = short_not_long
