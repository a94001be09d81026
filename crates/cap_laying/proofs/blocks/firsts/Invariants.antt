use Rattle.std.proofs.Common.{◌≡◌, drop}
use Rattle.cap_laying.specs.Blocks.{put_firsts}
use Rattle.cap_laying.proofs.blocks.firsts.Given as goal

abbrev pub invariant-members : goal.invariant-members
invariant-members l = put_firsts l.table.items (drop l.member-index l.members) ≡ put_firsts l.initial.table.items l.members
