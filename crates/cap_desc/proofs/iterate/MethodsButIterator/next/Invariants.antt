use Rattle.std.proofs.Common.{◌≡◌, length}
use Rattle.cap_desc.specs.ClassRecords.{described_left}
use Rattle.cap_desc.specs.MembersLeft.{methods_but_left}
use Rattle.cap_desc.proofs.iterate.MethodsButIterator.next.Given as goal

abbrev pub invariant-classes : goal.invariant-classes
invariant-classes l = methods_but_left l.self ≡ methods_but_left l.initial.self

abbrev pub decreases-classes : goal.decreases-classes
decreases-classes l = length (described_left l.self.classes)
