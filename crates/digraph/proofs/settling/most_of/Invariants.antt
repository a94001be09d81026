use Rattle.std.proofs.Common.{take}
use Rattle.digraph.specs.Settled.{IsMostOf}
use Rattle.digraph.proofs.settling.most_of.Given as goal

abbrev pub invariant-row : goal.invariant-row
invariant-row l = IsMostOf l.known.items (take l.v-index l.row) l.best
