use Rattle.cap_bytes.proofs.Loops.{HasPassed}
use Rattle.cap_desc.specs.DescriptorFormat.{class_descriptor_info}
use Rattle.cap_desc.proofs.reading.classes.Given as goal

abbrev pub invariant-classes : goal.invariant-classes
invariant-classes l = HasPassed class_descriptor_info l.left l.initial.items l.counter l.items
