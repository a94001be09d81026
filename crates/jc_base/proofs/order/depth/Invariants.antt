use Rattle.std.proofs.Common.{◌≡◌, ◌+◌, length}
use Rattle.jc_base.specs.Class.{IsClass, chain}
use Rattle.jc_base.proofs.order.depth.Given as goal

abbrev pub invariant-climb : goal.invariant-climb
invariant-climb l = record {
  class : IsClass l.classes l.at;
  so_far : l.n + length (chain l.classes l.at) ≡ length (chain l.classes l.fn.c) + 1;
}

abbrev pub decreases-climb : goal.decreases-climb
decreases-climb l = length (chain l.classes l.at)
