-- The starts are those of the class records, and the tally is that of the descriptions.
use Rattle.std.proofs.Common.{ℕ, List, Option, map, ap, ◌∙◌}
use Rattle.offset_set.specs.Bits.{holds}
use Rattle.offset_set.specs.Tallies.{tallied}
use Rattle.cap_pool.specs.ExportFormat.{Exported}
use Rattle.cap_class.specs.ClassFormat.{Class}
use Rattle.cap_desc.specs.DescriptorFormat as desc
use Rattle.cap_desc.specs.ClassRecords.{described_left}
use Rattle.cap_components.specs.declared.fault.PackFault.{PackFault}
use Rattle.cap_components.specs.ComponentsSeen.{components_seen}
use Rattle.cap_components.specs.Order.{least_of, least_from, refused}
use Rattle.cap_package.specs.Agreement.{or_none}
use Rattle.cap_package.specs.NameChecks.{undescribed_fault, undescribed_class_fault, not_own_fault}
use Rattle.cap_package.proofs.ClassLaws.{refs, described_once, own_there}
use Rattle.cap_package.proofs.packaging.classes_agree.Goals as goal

pub returns : goal.returns
returns c =
    let p = components_seen c.args.all.now in
    let named = described_left c.classes-descriptors.result in
    let there = own_there (holds c.class_starts-starts.result) p.classes c.class_starts-starts.ensures in
    let once = described_once (tallied c.descriptions.result) named c.descriptions.ensures in
    c.refuse.ensures
    ∙ ap refused (c.export_classes.ensures
    ∙ ap (λ (least : Option PackFault). least_from least (undescribed_class_fault p.classes)
    (map (λ (x : Exported). x.class_offset) (or_none p.export)))
    (c.descriptors_named-unnamed.ensures
    ∙ ap (λ (f : ℕ → Option PackFault). least_from c.classes_described-undescribed.result f (refs named)) there
    ∙ ap (λ (ds : List desc.ClassDescriptor). least_from c.classes_described-undescribed.result (not_own_fault p.classes) (refs ds))
    c.classes-descriptors.ensures
    ∙ ap (λ (least : Option PackFault). least_from least (not_own_fault p.classes) (refs p.description.items.classes))
    (c.classes_described-undescribed.ensures
    ∙ ap (λ (f : Class → Option PackFault). least_of f p.classes) once
    ∙ ap (λ (ds : List desc.ClassDescriptor). least_of (undescribed_fault ds) p.classes) c.classes-descriptors.ensures)))
