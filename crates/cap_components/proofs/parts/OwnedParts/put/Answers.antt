-- The part was not there, so each part still stands once.
use Rattle.std.proofs.lemmas.List.{map-append}
use Rattle.cap_components.proofs.PartsLemmas.{HasEachOnce-push}
use Rattle.cap_components.proofs.parts.OwnedParts.put.Goals as goal

pub invariant_of-self-2 : goal.invariant_of-self-2
invariant_of-self-2 c = rw (c.in_ok-push.ensures.items, map-append) (HasEachOnce-push _ _ c.self.invariant (rw (← c.self.view_is) at c.requires))
