use Rattle.cap_listing.proofs.Replaced.{methods-replaced}
use Rattle.cap_listing.proofs.laws.methods_are_replaced.Goals as goal

pub returns : goal.returns
returns c = methods-replaced
