use Rattle.std.proofs.Common.{◌≡◌, ◌++◌, ◌-◌}
use Rattle.std.specs.List.{flat_map}
use Rattle.cap_load.specs.Order.{components}
use Rattle.cap_load.specs.Joining.{counted_from, file_in}
use Rattle.cap_load.proofs.packing.joined.Given as goal

abbrev pub invariant-customs : goal.invariant-customs
invariant-customs l =
    l.contents.items ++ flat_map (file_in l.parts) (counted_from l.tag (256 - l.tag))
    ≡ flat_map (file_in l.parts) components ++ flat_map (file_in l.parts) (counted_from 128 128)
