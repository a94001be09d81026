use Rattle.std.proofs.Common.{sym}
use Rattle.jc_decode.proofs.Listing.{listing_from-more, listing_from-end, listing_from-start}
use Rattle.jc_decode.proofs.laws.listing_is_one.Goals as goal

pub returns : goal.returns
returns c = record { start = λ code. sym (listing_from-start code); more = listing_from-more; none = listing_from-end }
