use Rattle.vm_offend.specs.Sized.{AreSized}
use Rattle.capcheck_core.specs.Generate.{IsSumOfShorts}
use Rattle.capcheck_core.specs.Outside.{card_words}
use Rattle.capcheck_core.proofs.Generates.{HaveRun}
use Rattle.capcheck_core.proofs.generating.run_all.Given as goal

abbrev pub invariant-methods : goal.invariant-methods
invariant-methods l = record {
  run : HaveRun l.accepted l.number (card_words l.initial.ram l.initial.heap l.initial.statics) (card_words l.ram l.heap l.statics) l.sum;
  sized : AreSized l.accepted l.ram l.heap l.statics;
  sum : IsSumOfShorts l.number l.sum;
}
