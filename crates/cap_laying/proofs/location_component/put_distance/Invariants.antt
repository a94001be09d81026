use Rattle.std.proofs.Common.{◌≡◌, ◌++◌, length, take}
use Rattle.cap_laying.specs.Distances.{distance_bytes}
use Rattle.cap_laying.proofs.location_component.put_distance.Given as goal

abbrev pub invariant-whole : goal.invariant-whole
invariant-whole l = record {
  bytes : l.out.items ++ distance_bytes l.left ≡ l.initial.out.items ++ distance_bytes l.distance;
  begun : take (length l.initial.out.items) l.out.items ≡ l.initial.out.items;
}

abbrev pub decreases-whole : goal.decreases-whole
decreases-whole l = l.left
