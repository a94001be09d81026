use Rattle.capcheck_core.proofs.Stores.{AreInOrderBelow}
use Rattle.capcheck_core.proofs.storing.in_order.Given as goal

abbrev pub invariant-tags : goal.invariant-tags
invariant-tags l = AreInOrderBelow l.parts l.tag l.stores
