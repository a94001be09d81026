use Rattle.std.proofs.Common.{◌≡◌, drop, length}
use Rattle.cap_laying.specs.Member.{AreWithin, placed}
use Rattle.cap_laying.proofs.blocks.by_offset.Given as goal

abbrev pub invariant-members : goal.invariant-members
invariant-members l = record {
  within : AreWithin l.size (drop l.member-index l.members);
  long : length l.table.items ≡ l.size;
  so_far : placed l.table.items (drop l.member-index l.members) ≡ placed l.initial.table.items l.members;
}
