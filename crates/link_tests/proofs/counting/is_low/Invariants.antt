use Rattle.std.proofs.Common.{◌≤◌}
use Rattle.jc_base.specs.Class.{height_below}
use Rattle.link_tests.proofs.counting.is_low.Given as goal

abbrev pub invariant-classes : goal.invariant-classes
invariant-classes l = height_below l.world.classes l.number ≤ l.fn.most
