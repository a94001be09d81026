use Rattle.std.proofs.Common.{take}
use Rattle.xf_allot.specs.Graph.{Adds, IsEntryOf}
use Rattle.xf_allot.proofs.edges.catch.Given as goal

abbrev pub invariant-handlers : goal.invariant-handlers
invariant-handlers l =
    record { adds : Adds (IsEntryOf (take l.handler-index l.subject.rec.now.handlers) l.place l.node) l.fn.edges.items l.edges.items }
