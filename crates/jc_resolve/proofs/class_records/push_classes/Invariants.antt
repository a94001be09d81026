use Rattle.std.proofs.Common.{◌≡◌, ◌++◌, All, flat_map}
use Rattle.cap_class.specs.ClassPart.{classes_left}
use Rattle.jc_resolve.specs.Conditions.{references_of_class, references_of_classes}
use Rattle.jc_resolve.specs.Described.{AreDescribedOnce}
use Rattle.jc_resolve.specs.Homes.{records_at, least_at, classes_at}
use Rattle.jc_resolve.specs.Named.{IsSized}
use Rattle.jc_resolve.proofs.class_records.push_classes.Given as goal

abbrev pub invariant-classes : goal.invariant-classes
invariant-classes l =
    (l.named.items ++ classes_at l.home (classes_left l.class-iterator) ≡ l.initial.named.items ++ classes_at l.home l.home.of_package.now.classes)
    × All IsSized l.named.items
    × AreDescribedOnce (records_at l.home) (classes_left l.class-iterator)
    × (least_at l.home l.least (flat_map references_of_class (classes_left l.class-iterator))
    ≡ least_at l.home l.initial.least (references_of_classes l.home.of_package.now))
