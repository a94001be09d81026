-- What was lent so far is the front of the list.
use Rattle.std.proofs.Common.{◌≡◌, take}
use Rattle.cap_components.specs.Inside.{lent_list, owned_list}
use Rattle.cap_components.proofs.parts.OwnedParts.lend.Given as goal

abbrev pub invariant-loop-owned : goal.invariant-loop-owned
invariant-loop-owned l = lent_list l.items.items ≡ owned_list (take l.owned-index l.owned-items)
