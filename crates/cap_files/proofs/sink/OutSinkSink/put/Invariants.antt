use Rattle.std.proofs.Common.{◌≡◌, ℕ, List, ◌++◌, length}
use Rattle.cap_files.specs.Sink.{TakesWhole}
use Rattle.cap_files.proofs.sink.OutSinkSink.put.Given as goal

abbrev pub invariant-pieces : goal.invariant-pieces
invariant-pieces g l = record {
  bytes : (given : List ℕ) × (l.piece ≡ given ++ l.left) × TakesWhole (g.O.Output.taken l.initial.self.output) given (g.O.Output.taken l.self.output);
  faults : g.O.Output.faults l.self.output ≡ g.O.Output.faults l.initial.self.output;
}

abbrev pub decreases-pieces : goal.decreases-pieces
decreases-pieces g l = length l.left
