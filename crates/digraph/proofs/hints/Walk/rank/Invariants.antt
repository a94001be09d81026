use Rattle.std.proofs.Common.{vec_len}
use Rattle.digraph.proofs.hints.Walk.rank.Given as goal

abbrev pub decreases-loop-v : goal.decreases-loop-v
decreases-loop-v l = vec_len l.self.unranked
