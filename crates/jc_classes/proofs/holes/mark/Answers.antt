use Rattle.jc_classes.proofs.Marks.{unmarked, marked_all}
use Rattle.jc_classes.proofs.holes.mark.Goals as goal

pub climb-init : goal.climb-init
climb-init c = unmarked c.args.lineage.now c.args.c c.args.marks.now c.requires.known c.requires.room c.requires.none

pub returns-clause-is : goal.returns-clause-is
returns-clause-is c = marked_all c.args.lineage.now c.args.c c.climb.marks c.climb.above c.in_default.is c.climb.invariant
