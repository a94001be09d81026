use Rattle.digraph.specs.Settled.{IsTable, unknown}
use Rattle.digraph.proofs.settling.greatest.Given as goal

abbrev pub invariant-passes : goal.invariant-passes
invariant-passes l = IsTable l.graph l.weights l.known.items

abbrev pub decreases-passes : goal.decreases-passes
decreases-passes l = unknown l.known.items
