use Rattle.std.proofs.Common.{◌≡◌, length}
use Rattle.jc_base.specs.Class.{IsClass, chain}
use Rattle.jc_base.specs.Interface.{implements}
use Rattle.vm_step.specs.Searched.{AreLeft}
use Rattle.vm_step.proofs.instance.implements.Given as goal

-- what is asked from here is what was asked from the class
abbrev pub invariant-climb : goal.invariant-climb
invariant-climb l = record {
  class : IsClass l.world.classes l.at;
  left : AreLeft l.world.classes l.sought l.searched;
  same : implements l.world.classes l.at l.sought ≡ implements l.world.classes l.class l.sought;
}

abbrev pub decreases-climb : goal.decreases-climb
decreases-climb l = length (chain l.world.classes l.at)
