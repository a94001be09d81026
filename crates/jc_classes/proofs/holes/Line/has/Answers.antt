use Rattle.std.proofs.Common.{arith}
use Rattle.jc_classes.proofs.Marks.{marks_count}
use Rattle.jc_classes.proofs.holes.Line.has.Goals as goal

pub bounds-self-d : goal.bounds-self-d
bounds-self-d c = omega (arith, marks_count c.args.self.lineage.now c.args.self.class c.args.self.marks.now c.args.self.marked, c.requires)
