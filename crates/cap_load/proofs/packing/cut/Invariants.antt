use Rattle.std.proofs.Common.{length}
use Rattle.cap_load.proofs.Cuts.{IsCutUpTo}
use Rattle.cap_load.proofs.packing.cut.Given as goal

abbrev pub invariant-cuts : goal.invariant-cuts
invariant-cuts l = IsCutUpTo l.contents l.stream.items l.rest

abbrev pub decreases-cuts : goal.decreases-cuts
decreases-cuts l = length l.rest
