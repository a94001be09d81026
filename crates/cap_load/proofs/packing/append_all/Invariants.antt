use Rattle.std.proofs.Common.{◌≡◌, ◌++◌, take}
use Rattle.std.specs.List.{flat_map}
use Rattle.cap_load.specs.Joining.{file_in}
use Rattle.cap_load.proofs.packing.append_all.Given as goal

abbrev pub invariant-tags : goal.invariant-tags
invariant-tags l = l.contents.items ≡ l.fn.contents.items ++ flat_map (file_in l.parts) (take l.tag-index l.tags)
