use Rattle.std.proofs.Common.{◌≡◌}
use Rattle.offset_set.specs.Bits.{holds}
use Rattle.offset_set.specs.Sets.{either}
use Rattle.cap_class.specs.ClassPart.{classes_left, records}
use Rattle.cap_package.specs.NameChecks.{is_class_at}
use Rattle.cap_package.proofs.methods.class_starts.Given as goal

abbrev pub invariant-classes : goal.invariant-classes
invariant-classes l = either (holds l.starts) (is_class_at (classes_left l.class-iterator)) ≡ is_class_at (records l.classes)
