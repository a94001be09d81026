use Rattle.std.proofs.Common.{◌≡◌, ◌≤◌, ◌*◌, ◌+◌, length}
use Rattle.cap_desc.specs.ClassRecords.{described_left}
use Rattle.cap_package.specs.Descriptions.{description}
use Rattle.jc_resolve.specs.Counts.{method_count}
use Rattle.jc_resolve.proofs.counts.method_count.Given as goal

abbrev pub invariant-classes : goal.invariant-classes
invariant-classes l =
    (l.count + method_count (described_left l.class-iterator) ≡ method_count (description l.descriptor).items.classes)
    × (l.count + 65535 * length (described_left l.class-iterator) ≤ 16711425)
