use Rattle.std.proofs.Common.{take}
use Rattle.xf_live.specs.Interference.{AreAfter}
use Rattle.xf_live.proofs.interference.find_interference.Given as goal

abbrev pub invariant-edges : goal.invariant-edges
invariant-edges l = record { after : AreAfter l.uses l.sets.items (take l.edge-index l.edges) l.after.items }
