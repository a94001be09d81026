use Rattle.std.proofs.Common.{◌≡◌, ◌++◌, map, string_bytes}
use Rattle.std.specs.List.{flat_map}
use Rattle.cap_frame.specs.Directory.{custom_seen, customs_left, directory_items}
use Rattle.cap_frame.specs.DirectoryFormat.{Custom}
use Rattle.cap_text.specs.Table.{component_line}
use Rattle.cap_text.proofs.table.custom_lines.Given as goal

abbrev pub invariant-customs : goal.invariant-customs
invariant-customs l = record {
  so_far : string_bytes l.text ≡ flat_map (λ (x : Custom). component_line x.tag x.size) (map custom_seen l.yielded);
  whole : map custom_seen l.yielded ++ customs_left l.custom-iterator ≡ (directory_items l.directory).customs;
}
