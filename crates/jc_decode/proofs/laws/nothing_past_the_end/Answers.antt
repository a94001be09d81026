use Rattle.jc_decode.proofs.PastTheEnd.{decoded-past}
use Rattle.jc_decode.proofs.laws.nothing_past_the_end.Goals as goal

pub returns : goal.returns
returns c = decoded-past
