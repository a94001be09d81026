use Rattle.std.proofs.Common.{◌≡◌, ◌≤◌, ◌+◌, ◌*◌, ◌++◌, drop, length, take}
use Rattle.cap_laying.specs.Catches.{catch_places}
use Rattle.cap_laying.specs.Distances.{distances, last_of}
use Rattle.cap_laying.specs.Telling.{IsFew}
use Rattle.cap_laying.proofs.entries.tell_catches.Given as goal

abbrev pub invariant-handlers : goal.invariant-handlers
invariant-handlers l = record {
  place : l.at ≡ l.start + 8 * l.handler-index;
  order : l.told.last ≤ l.at;
  few : IsFew l.told;
  bytes : l.told.bytes.items ++ distances l.told.last (catch_places l.at (drop l.handler-index l.handlers)) ≡ l.initial.told.bytes.items ++ distances
      l.initial.told.last (catch_places l.start l.handlers);
  begun : take (length l.initial.told.bytes.items) l.told.bytes.items ≡ l.initial.told.bytes.items;
  last : last_of l.told.last (catch_places l.at (drop l.handler-index l.handlers)) ≡ last_of l.initial.told.last (catch_places l.start l.handlers);
}
