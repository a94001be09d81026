use Rattle.cap_listing.specs.Methods.{methods_of}
use Rattle.cap_listing.proofs.OneFault.{comes-back}
use Rattle.cap_listing.proofs.laws.listing_comes_back.Goals as goal

pub returns : goal.returns
returns c p text answer = comes-back text (methods_of p) answer
