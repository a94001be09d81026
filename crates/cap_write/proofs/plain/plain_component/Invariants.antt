use Rattle.std.proofs.Common.{◌≡◌, ◌≤◌, ◌+◌, ◌*◌, drop, map}
use Rattle.cap_write.specs.Described.{member_seen}
use Rattle.cap_write.specs.PlainComponent.{AreSmallMembers, plain_members}
use Rattle.cap_write.proofs.plain.plain_component.Given as goal

abbrev pub invariant-members : goal.invariant-members
invariant-members l = record {
  most : l.size ≤ 1 + 100345 * l.member-index;
  small : AreSmallMembers (drop l.member-index l.members);
  so_far : l.size + plain_members (map member_seen (drop l.member-index l.members)) ≡ 1 + plain_members (map member_seen l.members);
}
