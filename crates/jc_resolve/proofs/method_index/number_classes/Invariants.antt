use Rattle.std.proofs.Common.{◌≡◌, ◌+◌}
use Rattle.offset_set.specs.Bits.{holds}
use Rattle.cap_desc.specs.ClassRecords.{described_left}
use Rattle.jc_resolve.specs.Counts.{method_count}
use Rattle.jc_resolve.specs.Numbers.{spots_of_classes, with_all}
use Rattle.jc_resolve.proofs.method_index.number_classes.Given as goal

abbrev pub invariant-classes : goal.invariant-classes
invariant-classes l =
    (with_all l.numbers (spots_of_classes l.«package» (holds l.interfaces) (described_left l.class-iterator)) ≡ with_all l.initial.numbers
    (spots_of_classes l.«package» (holds l.interfaces) (described_left l.fn.classes)))
    × (l.numbers.next + method_count (described_left l.class-iterator) ≡ l.initial.numbers.next + method_count (described_left l.fn.classes))
