use Rattle.std.proofs.Common.{◌≡◌, ◌≤◌, drop}
use Rattle.cap_laying.specs.Member.{methods_end_from}
use Rattle.cap_laying.specs.NewPlaces.{AreSmallBodies}
use Rattle.cap_laying.proofs.places.end_of.Given as goal

abbrev pub invariant-methods : goal.invariant-methods
invariant-methods l = record {
  low : l.at ≤ 65535;
  small : AreSmallBodies (drop l.slot-index l.table);
  so_far : methods_end_from l.at (drop l.slot-index l.table) ≡ methods_end_from l.start l.table;
}
