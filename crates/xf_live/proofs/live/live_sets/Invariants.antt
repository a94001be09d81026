use Rattle.xf_live.specs.Liveness.{Begins, work}
use Rattle.xf_live.proofs.live.live_sets.Given as goal

abbrev pub invariant-work : goal.invariant-work
invariant-work l = record { begins : Begins l.nodes l.liveness }

abbrev pub decreases-work : goal.decreases-work
decreases-work l = work l.liveness
