use Rattle.std.proofs.Common.{◌+◌}
use Rattle.vm_bound.proofs.Placing.{ArePlaced}
use Rattle.vm_bound.proofs.order.class_order.Given as goal

abbrev pub invariant-hint : goal.invariant-hint
invariant-hint l = ArePlaced l.world.classes 0 l.k l.order.keys

abbrev pub invariant-classes : goal.invariant-classes
invariant-classes l = ArePlaced l.world.classes l.class (4096 + l.class) l.order.keys
