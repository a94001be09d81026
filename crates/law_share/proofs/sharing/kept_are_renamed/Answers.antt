use Rattle.law_share.proofs.Kept.{kept-are-renamed}
use Rattle.law_share.proofs.sharing.kept_are_renamed.Goals as goal

pub returns : goal.returns
returns c = kept-are-renamed c.args.world.now c.operations_are_kept.ensures.operations c.operations_are_kept.ensures.demands
