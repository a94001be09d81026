use Rattle.std.proofs.Common.{◌≡◌, ◌≤◌, ◌++◌, drop}
use Rattle.jc_decode.specs.PoolIndex.{bytes_of_index}
use Rattle.cap_laying.specs.Distances.{distances, last_of}
use Rattle.cap_laying.specs.Telling.{IsFew}
use Rattle.cap_laying.specs.Member.{methods_end_from}
use Rattle.cap_laying.specs.NewPlaces.{AreSmallBodies}
use Rattle.cap_laying.specs.References.{method_indices}
use Rattle.cap_laying.proofs.location_component.tell_methods.Given as goal

abbrev pub invariant-methods : goal.invariant-methods
invariant-methods l = record {
  small : AreSmallBodies (drop l.slot-index l.table);
  end : methods_end_from l.at (drop l.slot-index l.table) ≤ 65535;
  order : l.told.last ≤ l.at;
  few : IsFew l.told;
  bytes : l.told.bytes.items ++ distances l.told.last (method_indices (bytes_of_index l.width) l.at (drop l.slot-index l.table))
      ≡ l.initial.told.bytes.items ++ distances l.initial.told.last (method_indices (bytes_of_index l.width) l.start l.table);
  last : last_of l.told.last (method_indices (bytes_of_index l.width) l.at (drop l.slot-index l.table)) ≡ last_of l.initial.told.last
      (method_indices (bytes_of_index l.width) l.start l.table);
}
