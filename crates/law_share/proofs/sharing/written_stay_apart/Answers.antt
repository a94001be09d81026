use Rattle.law_share.proofs.Allotting.{written-stay-apart}
use Rattle.law_share.proofs.sharing.written_stay_apart.Goals as goal

pub returns : goal.returns
returns c = written-stay-apart
