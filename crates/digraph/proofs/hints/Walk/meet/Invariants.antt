use Rattle.std.proofs.Common.{vec_len}
use Rattle.digraph.proofs.hints.Walk.meet.Given as goal

abbrev pub decreases-loop-start : goal.decreases-loop-start
decreases-loop-start l = vec_len l.self.starts
