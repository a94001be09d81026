use Rattle.jc_decode.proofs.Shorter.{short-no-longer}
use Rattle.jc_decode.proofs.laws.short_is_no_longer.Goals as goal

pub returns : goal.returns
returns c = short-no-longer
