-- What is left of the list holds what the whole list holds.
use Rattle.std.proofs.Common.{◌≡◌, drop}
use Rattle.cap_components.specs.Parts.{held}
use Rattle.cap_components.specs.Inside.{lent_list}
use Rattle.cap_components.proofs.parts.Parts.get.Given as goal

abbrev pub invariant-loop-lent : goal.invariant-loop-lent
invariant-loop-lent l = held (lent_list (drop l.lent-index l.lent-items)) l.part.0 ≡ held (lent_list l.lent-items) l.part.0
