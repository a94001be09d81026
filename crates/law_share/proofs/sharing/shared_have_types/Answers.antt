use Rattle.law_share.proofs.SharedTypes.{shared-have-types}
use Rattle.law_share.proofs.sharing.shared_have_types.Goals as goal

pub returns : goal.returns
returns c = shared-have-types c.args.world.now c.classes.ensures.links
