use Rattle.jc_base.specs.ByClass.{AreConcrete}
use Rattle.jc_base.proofs.class_index.ClassIndex.of.Given as goal

abbrev pub invariant-classes : goal.invariant-classes
invariant-classes l = AreConcrete l.classes l.methods l.c l.concrete.items
