use Rattle.std.proofs.Common.{take}
use Rattle.jc_base.specs.Interface.{extended_count}
use Rattle.vm_step.specs.Searched.{AreLeft}
use Rattle.vm_step.proofs.Search.{NoneExtends}
use Rattle.vm_step.proofs.instance.+extends.Given as goal

abbrev pub decreases-extends : goal.decreases-extends
decreases-extends l = extended_count l.world.now.classes l.interface

-- none of the interfaces so far leads to the one that is sought
abbrev pub invariant-extended : goal.invariant-extended
invariant-extended l =
    record { none : NoneExtends l.world.classes l.sought (take l.extended-index l.extended-items); left : AreLeft l.world.classes l.sought l.searched }
