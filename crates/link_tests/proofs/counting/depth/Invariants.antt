use Rattle.std.proofs.Common.{◌≡◌, ◌+◌, length}
use Rattle.jc_base.specs.Class.{IsClass, chain}
use Rattle.link_tests.proofs.counting.depth.Given as goal

abbrev pub invariant-climb : goal.invariant-climb
invariant-climb l = record {
  class : IsClass l.classes l.at;
  so_far : l.count + length (chain l.classes l.at) ≡ length (chain l.classes l.fn.class) + 1;
}

abbrev pub decreases-climb : goal.decreases-climb
decreases-climb l = length (chain l.classes l.at)
