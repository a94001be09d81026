use Rattle.cap_index.proofs.Listing.{gives_no_list, no_list}
use Rattle.cap_index.proofs.lists.Lists.none.Goals as goal

pub invariant_of-result : goal.invariant_of-result
invariant_of-result c = gives_no_list c.of-2.result

pub returns : goal.returns
returns c = no_list c.of-2.result
