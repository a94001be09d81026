use Rattle.std.proofs.Common.{take}
use Rattle.vm_step.specs.Searched.{AreLeft}
use Rattle.vm_step.proofs.Search.{NoneExtends}
use Rattle.vm_step.proofs.instance.names.Given as goal

abbrev pub invariant-named : goal.invariant-named
invariant-named l =
    record { none : NoneExtends l.world.classes l.sought (take l.named-index l.named-items); left : AreLeft l.world.classes l.sought l.searched }
