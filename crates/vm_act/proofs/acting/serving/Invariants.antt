use Rattle.std.proofs.Common.{◌≡◌, length}
use Rattle.jc_base.specs.Class.{IsClass, chain}
use Rattle.vm_step.specs.Calls.{serving}
use Rattle.vm_act.proofs.acting.serving.Given as goal

-- what is asked from here is what was asked from the class
abbrev pub invariant-climb : goal.invariant-climb
invariant-climb l = record {
  class : IsClass l.world.classes l.at;
  same : serving l.world.classes l.interface l.at ≡ serving l.world.classes l.interface l.class;
}

abbrev pub decreases-climb : goal.decreases-climb
decreases-climb l = length (chain l.world.classes l.at)
