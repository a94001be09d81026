use Rattle.law_share.proofs.Allotting.{methods-share-in-one-way, sharing-or-kept}
use Rattle.law_share.proofs.sharing.methods_share_in_one_way.Goals as goal

pub returns-clause-one : goal.returns-clause-one
returns-clause-one c = methods-share-in-one-way c.args.world.now c.typing_laws.ensures.order

pub returns-clause-kept : goal.returns-clause-kept
returns-clause-kept c = sharing-or-kept c.args.world.now c.typing_laws.ensures.order
