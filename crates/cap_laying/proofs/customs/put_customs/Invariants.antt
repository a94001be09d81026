use Rattle.std.proofs.Common.{◌≡◌, ◌++◌}
use Rattle.std.specs.Prelude.{filter}
use Rattle.std.specs.List.{flat_map}
use Rattle.cap_frame.specs.Directory.{customs_left, directory_items}
use Rattle.cap_laying.specs.DirectoryBytes.{AreShort, custom_bytes}
use Rattle.cap_laying.specs.NewDirectory.{stays_in_index}
use Rattle.cap_laying.proofs.customs.put_customs.Given as goal

abbrev pub invariant-customs : goal.invariant-customs
invariant-customs l = record {
  short : AreShort (customs_left l.custom-iterator);
  so_far : l.out.items ++ flat_map custom_bytes (filter (stays_in_index l.change) (customs_left l.custom-iterator)) ≡ l.initial.out.items ++ flat_map
      custom_bytes (filter (stays_in_index l.change) (directory_items l.directory).customs);
}
