use Rattle.jc_classes.proofs.Marks.{left_first, left_none}
use Rattle.jc_classes.proofs.holes.unmark.Goals as goal

pub climb-init : goal.climb-init
climb-init c = left_first c.args.lineage.now c.args.c c.args.marks.now c.requires.known c.requires.marked

pub returns-clause-none : goal.returns-clause-none
returns-clause-none c = left_none c.args.lineage.now c.climb.marks c.climb.above c.in_default.is c.climb.invariant
