use Rattle.offset_set.specs.Bits.{holds}
use Rattle.cap_desc.specs.DescriptorFormat.{class_descriptor_info}
use Rattle.cap_desc.specs.Descriptors.{descriptor_seen}
use Rattle.cap_desc.specs.ClassRecords.{described_left}
use Rattle.cap_bytes.specs.Edit.{patched_all}
use Rattle.cap_renewal.specs.DescriptorEdits.{class_edits, class_width, descriptor_edits}
use Rattle.cap_renewal.proofs.Items.{IsRenewing}
use Rattle.cap_renewal.proofs.descriptors.renew_descriptor.Given as goal

abbrev pub invariant-classes : goal.invariant-classes
invariant-classes l =
    IsRenewing class_descriptor_info (class_edits (holds l.interfaces) l.news) class_width l.initial.info
    (patched_all (descriptor_edits (holds l.interfaces) l.news (descriptor_seen l.descriptor).classes) l.initial.info) l.at
    (described_left l.class-iterator) l.info
