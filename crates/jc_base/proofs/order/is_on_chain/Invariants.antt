use Rattle.std.proofs.Common.{◌≡◌, length}
use Rattle.jc_base.specs.Class.{IsClass, chain}
use Rattle.jc_base.specs.Order.{is_on_chain}
use Rattle.jc_base.proofs.order.is_on_chain.Given as goal

abbrev pub invariant-climb : goal.invariant-climb
invariant-climb l = record {
  class : IsClass l.classes l.at;
  asked : is_on_chain l.classes l.d l.at ≡ is_on_chain l.classes l.d l.fn.c;
}

abbrev pub decreases-climb : goal.decreases-climb
decreases-climb l = length (chain l.classes l.at)
