use Rattle.cap_listing.proofs.Final.{one-list}
use Rattle.cap_listing.proofs.laws.one_listing.Goals as goal

pub returns : goal.returns
returns c = one-list
