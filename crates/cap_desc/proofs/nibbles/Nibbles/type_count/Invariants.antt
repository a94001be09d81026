use Rattle.std.proofs.Common.{◌-◌}
use Rattle.cap_desc.specs.TypeFormat.{type_item}
use Rattle.cap_desc.specs.Nibbles.{nibbles_in}
use Rattle.cap_desc.proofs.Counting.{HasCounted}
use Rattle.cap_desc.proofs.nibbles.Nibbles.type_count.Given as goal

abbrev pub invariant-types : goal.invariant-types
invariant-types l = HasCounted type_item (nibbles_in l.self) l.count l.at

abbrev pub decreases-types : goal.decreases-types
decreases-types l = 255 - l.at
