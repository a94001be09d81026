use Rattle.xf_live.specs.Liveness.{BegunTo}
use Rattle.xf_live.proofs.live.Liveness.of.Given as goal

abbrev pub invariant-nodes : goal.invariant-nodes
invariant-nodes l = record { begun : BegunTo l.nodes l.number l.liveness }
