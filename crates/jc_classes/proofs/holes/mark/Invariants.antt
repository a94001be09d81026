use Rattle.std.proofs.Common.{length}
use Rattle.jc_base.specs.Class.{list_of}
use Rattle.jc_classes.specs.Outline.{chain}
use Rattle.jc_classes.proofs.Marks.{AreMarked}
use Rattle.jc_classes.proofs.holes.mark.Given as goal

abbrev pub invariant-climb : goal.invariant-climb
invariant-climb l = AreMarked l.lineage l.fn.c l.marks l.above

abbrev pub decreases-climb : goal.decreases-climb
decreases-climb l = length (list_of (chain l.lineage) l.above)
