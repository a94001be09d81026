use Rattle.std.proofs.Common.{◌≡◌, ◌++◌, map}
use Rattle.offset_set.specs.Bits.{holds}
use Rattle.cap_desc.specs.ClassRecords.{described_left}
use Rattle.cap_desc.specs.Descriptors.{descriptor_seen}
use Rattle.cap_write.specs.Described.{member_seen, seen_classes}
use Rattle.cap_write.specs.SmallStacks.{HaveSmallStacks}
use Rattle.cap_write.proofs.plain.members.Given as goal

abbrev pub invariant-classes : goal.invariant-classes
invariant-classes l = record {
  seen :
      map member_seen l.out.items ++ seen_classes (holds l.interfaces) l.info.bytes.now (described_left l.class-iterator) l.rest
      ≡ seen_classes (holds l.interfaces) l.info.bytes.now (descriptor_seen l.descriptor).classes l.laid;
  stacks : HaveSmallStacks l.out.items;
}
