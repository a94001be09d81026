use Rattle.std.proofs.Common.{◌≡◌, ◌++◌, drop, string_bytes}
use Rattle.std.specs.List.{flat_map}
use Rattle.cap_text.specs.Table.{tag_line}
use Rattle.cap_text.proofs.table.component_lines.Given as goal

abbrev pub invariant-tags : goal.invariant-tags
invariant-tags l = string_bytes l.text ++ flat_map (tag_line l.package.directory) (drop l.tag-index l.tags) ≡ flat_map (tag_line l.package.directory) l.tags
