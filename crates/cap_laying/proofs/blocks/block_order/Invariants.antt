use Rattle.std.proofs.Common.{◌≡◌, ◌++◌, drop}
use Rattle.std.specs.Prelude.{filter}
use Rattle.std.specs.List.{flat_map}
use Rattle.std.specs.Option.{option_to_list}
use Rattle.cap_laying.specs.Blocks.{had_none}
use Rattle.cap_laying.proofs.blocks.block_order.Given as goal

abbrev pub invariant-slots : goal.invariant-slots
invariant-slots l = l.blocks.items ++ flat_map option_to_list (drop l.slot-index l.slot-items) ≡ flat_map option_to_list l.slot-items

abbrev pub invariant-members : goal.invariant-members
invariant-members l = l.blocks.items ++ filter had_none (drop l.member-index l.members) ≡ l.initial.blocks.items ++ filter had_none l.members
