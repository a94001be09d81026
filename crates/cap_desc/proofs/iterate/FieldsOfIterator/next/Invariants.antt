use Rattle.std.proofs.Common.{◌≡◌, length}
use Rattle.cap_desc.specs.ClassRecords.{described_left}
use Rattle.cap_desc.specs.MembersLeft.{fields_of_left}
use Rattle.cap_desc.proofs.iterate.FieldsOfIterator.next.Given as goal

abbrev pub invariant-classes : goal.invariant-classes
invariant-classes l = fields_of_left l.self ≡ fields_of_left l.initial.self

abbrev pub decreases-classes : goal.decreases-classes
decreases-classes l = length (described_left l.self.classes)
