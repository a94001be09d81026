use Rattle.std.proofs.Common.{◌≡◌}
use Rattle.offset_set.specs.Bits.{holds}
use Rattle.offset_set.specs.Sets.{either}
use Rattle.cap_class.specs.ClassPart.{records, classes_left}
use Rattle.cap_components.specs.PackageRecord.{names_interface}
use Rattle.cap_components.proofs.reading.interface_offsets.Given as goal

abbrev pub invariant-classes : goal.invariant-classes
invariant-classes l = either (holds l.offsets) (names_interface (classes_left l.class-iterator)) ≡ names_interface (records l.classes)
