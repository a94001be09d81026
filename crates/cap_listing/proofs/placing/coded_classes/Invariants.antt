use Rattle.std.proofs.Common.{◌≡◌, ◌++◌}
use Rattle.offset_set.specs.Bits.{holds}
use Rattle.cap_desc.specs.ClassRecords.{described_left}
use Rattle.cap_desc.specs.Descriptors.{descriptor_seen}
use Rattle.cap_listing.specs.Placing.{coded_in}
use Rattle.cap_listing.proofs.placing.coded_classes.Given as goal

-- with the classes that are left it is what it will be
abbrev pub invariant-classes : goal.invariant-classes
invariant-classes l =
    l.flags.items ++ coded_in (holds l.interfaces) l.methods.info.bytes.now (described_left l.class-iterator)
    ≡ coded_in (holds l.interfaces) l.methods.info.bytes.now (descriptor_seen l.descriptor).classes
