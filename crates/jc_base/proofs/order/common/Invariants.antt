use Rattle.std.proofs.Common.{◌≡◌, ◌+◌, length}
use Rattle.jc_base.specs.Class.{IsClass, chain}
use Rattle.jc_base.specs.Order.{common}
use Rattle.jc_base.proofs.order.common.Given as goal

abbrev pub invariant-climb : goal.invariant-climb
invariant-climb l = record {
  a_class : IsClass l.classes l.a;
  b_class : IsClass l.classes l.b;
  a_is : l.a_depth ≡ length (chain l.classes l.a);
  b_is : l.b_depth ≡ length (chain l.classes l.b);
  asked : common l.classes l.a l.b ≡ common l.classes l.fn.c l.fn.d;
}

abbrev pub decreases-climb : goal.decreases-climb
decreases-climb l = length (chain l.classes l.a) + length (chain l.classes l.b)
