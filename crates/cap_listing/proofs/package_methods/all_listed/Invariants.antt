use Rattle.std.proofs.Common.{◌≡◌, ◌+◌, ◌++◌, length}
use Rattle.std.specs.Prelude.{All}
use Rattle.offset_set.specs.Bits.{holds}
use Rattle.cap_desc.specs.ClassRecords.{described_left}
use Rattle.cap_desc.specs.Descriptors.{descriptor_seen}
use Rattle.cap_components.specs.MethodsSeen.{methods_seen}
use Rattle.cap_listing.specs.Methods.{IsCounted, listed_in}
use Rattle.cap_listing.proofs.package_methods.all_listed.Given as goal

abbrev pub invariant-classes : goal.invariant-classes
invariant-classes l =
    (l.listed.items ++ listed_in (holds l.interfaces) (methods_seen l.methods) l.class_no (described_left l.class-iterator)
    ≡ listed_in (holds l.interfaces) (methods_seen l.methods) 0 (descriptor_seen l.descriptor).classes)
    × (l.class_no + length (described_left l.class-iterator) ≡ length (descriptor_seen l.descriptor).classes)
    × All IsCounted l.listed.items
