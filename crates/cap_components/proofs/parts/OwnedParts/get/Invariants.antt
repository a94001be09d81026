-- What is left of the list holds what the whole list holds.
use Rattle.std.proofs.Common.{◌≡◌, drop}
use Rattle.cap_components.specs.Parts.{held}
use Rattle.cap_components.specs.Inside.{owned_list}
use Rattle.cap_components.proofs.parts.OwnedParts.get.Given as goal

abbrev pub invariant-loop-owned : goal.invariant-loop-owned
invariant-loop-owned l = held (owned_list (drop l.owned-index l.owned-items)) l.part.0 ≡ held (owned_list l.owned-items) l.part.0
