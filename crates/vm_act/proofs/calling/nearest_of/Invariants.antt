use Rattle.std.proofs.Common.{◌≡◌, length}
use Rattle.jc_base.specs.Class.{IsClass, chain}
use Rattle.jc_base.specs.Dispatch.{nearest_of}
use Rattle.vm_act.proofs.calling.nearest_of.Given as goal

-- what is asked from here is what was asked from the class
abbrev pub invariant-climb : goal.invariant-climb
invariant-climb l = record {
  class : IsClass l.world.classes l.at;
  same : nearest_of l.world.classes l.home l.at ≡ nearest_of l.world.classes l.home l.of;
}

abbrev pub decreases-climb : goal.decreases-climb
decreases-climb l = length (chain l.world.classes l.at)
