use Rattle.digraph.specs.Settled.{IsTable}
use Rattle.digraph.proofs.settling.along.Given as goal

abbrev pub invariant-order : goal.invariant-order
invariant-order l = IsTable l.graph l.weights l.known.items
