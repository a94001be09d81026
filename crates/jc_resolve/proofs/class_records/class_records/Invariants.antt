use Rattle.std.proofs.Common.{◌≡◌, ◌+◌, ◌++◌, All, length, map}
use Rattle.std.specs.Prelude.{slice_index}
use Rattle.first_fault.specs.Least.{least_from}
use Rattle.cap_package.specs.PackagesLeft.{packages_left}
use Rattle.jc_resolve.specs.Conditions.{no_class_fault, named_after, named_in}
use Rattle.jc_resolve.specs.Fault.{link_place}
use Rattle.jc_resolve.specs.LookedUp.{references_for_classes}
use Rattle.jc_resolve.specs.Named.{IsSized}
use Rattle.jc_resolve.specs.NamedClasses.{named_class}
use Rattle.jc_resolve.specs.Numbering.{classes_after, numbered_classes}
use Rattle.jc_resolve.specs.TypedFields.{fields_after}
use Rattle.jc_resolve.proofs.class_records.class_records.Given as goal

abbrev pub invariant-packages : goal.invariant-packages
invariant-packages l =
    (l.named.items ++ map (named_class l.index (slice_index l.roles 0)) (classes_after l.k (packages_left l.package-iterator))
    ≡ map (named_class l.index (slice_index l.roles 0)) (numbered_classes l.packages))
    × All IsSized l.named.items
    × (l.k + length (packages_left l.package-iterator) ≡ length l.packages)
    × (l.fields.items ++ fields_after l.index (slice_index l.roles 0) l.k (packages_left l.package-iterator) ≡ l.initial.fields.items ++ fields_after
    l.index (slice_index l.roles 0) 0 l.packages)
    × (least_from link_place l.least (no_class_fault l.index) (named_after references_for_classes l.k (packages_left l.package-iterator))
    ≡ least_from link_place l.initial.least (no_class_fault l.index) (named_in references_for_classes l.packages))
