use Rattle.offset_set.specs.Bits.{holds}
use Rattle.cap_desc.specs.ClassRecords.{described_left}
use Rattle.cap_desc.specs.Descriptors.{descriptor_seen}
use Rattle.cap_write.specs.Condition.{methods_for}
use Rattle.xf_tests.proofs.SoFar.{IsSoFar}
use Rattle.xf_tests.proofs.writable.are_elements.Given as goal

abbrev pub invariant-classes : goal.invariant-classes
invariant-classes l =
    IsSoFar l.methods.info.bytes.now (methods_for (holds l.interfaces) (descriptor_seen l.descriptor).classes)
    (methods_for (holds l.interfaces) (described_left l.class-iterator)) l.laid l.rest
