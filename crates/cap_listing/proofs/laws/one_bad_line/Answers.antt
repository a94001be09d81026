use Rattle.cap_listing.proofs.OneFault.{one-line, no-listing}
use Rattle.cap_listing.proofs.laws.one_bad_line.Goals as goal

pub returns : goal.returns
returns c = (one-line, no-listing)
