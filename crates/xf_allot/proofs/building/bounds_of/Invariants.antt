use Rattle.std.proofs.Common.{◌≡◌, ◌+◌, length, take}
use Rattle.jc_control.specs.Flags.{Marks}
use Rattle.xf_allot.specs.Graph.{IsBound}
use Rattle.xf_allot.proofs.building.bounds_of.Given as goal

abbrev pub invariant-handlers : goal.invariant-handlers
invariant-handlers l = record {
  size : length l.bounds ≡ length l.subject.code.bytes.now + 1;
  marks : Marks (IsBound (take l.handler-index l.subject.rec.now.handlers)) l.bounds;
}
