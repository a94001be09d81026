use Rattle.std.proofs.Common.{◌≡◌, map}
use Rattle.offset_set.specs.Tallies.{tallied, tally_of, with_all}
use Rattle.cap_desc.specs.DescriptorFormat as desc
use Rattle.cap_desc.specs.ClassRecords.{described_left}
use Rattle.cap_package.proofs.classes.descriptions.Given as goal

abbrev pub invariant-classes : goal.invariant-classes
invariant-classes l =
    with_all (tallied l.described) (map (λ (d : desc.ClassDescriptor). d.class_ref) (described_left l.class-iterator))
    ≡ tally_of (map (λ (d : desc.ClassDescriptor). d.class_ref) (described_left l.fn.descriptors))
