use Rattle.jc_decode.proofs.Listing.{Lists-listing_from}
use Rattle.jc_decode.proofs.instructions.Instructions.of.Goals as goal

pub returns-clause-lists : goal.returns-clause-lists
returns-clause-lists c = Lists-listing_from c.args.code.bytes.now 0
