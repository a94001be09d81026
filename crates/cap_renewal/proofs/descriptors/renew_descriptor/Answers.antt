use Rattle.std.proofs.Common.{◌≡◌, subst, rules}
use Rattle.offset_set.specs.Bits.{holds}
use Rattle.cap_desc.specs.DescriptorFormat.{class_descriptor_info}
use Rattle.cap_desc.specs.Descriptors.{descriptor_seen}
use Rattle.cap_desc.specs.ClassRecords.{described_class_seen, described_left}
use Rattle.cap_bytes.specs.Edit.{patched_all}
use Rattle.cap_renewal.specs.DescriptorEdits.{class_edits, renewed_class, class_width, descriptor_edits}
use Rattle.cap_renewal.proofs.Items.{IsRenewing, IsNext, renewing_next, renewing_more}
use Rattle.cap_renewal.proofs.DescriptorItems.{class_item, descriptor_begins, descriptor_inside, descriptor_fit, descriptor_renewed}
use Rattle.cap_bytes.specs.Renewal.{Renews}
use Rattle.cap_renewal.proofs.descriptors.renew_descriptor.Goals as goal

pub classes-init : goal.classes-init
classes-init c =
    let set = holds c.args.interfaces.now in
    let d = descriptor_seen c.args.descriptor.now in
    let e : d.classes ≡ described_left c.into_iter-class-iterator.result = cc in
    subst
    (λ xs. IsRenewing class_descriptor_info (class_edits set c.args.news.now) class_width c.args.info.now
    (patched_all (descriptor_edits set c.args.news.now d.classes) c.args.info.now) 1 xs c.args.info.now)
    e (descriptor_begins set c.args.news.now c.args.info.now d c.requires)

pub write_class-at-requires : goal.write_class-at-requires
write_class-at-requires c =
    let set = holds c.args.interfaces.now in
    let d = descriptor_seen c.args.descriptor.now in
    let n : IsNext class_descriptor_info class_width c.args.info.now c.classes.info c.classes.at (described_class_seen c.in-Some.class) =
    renewing_next class_descriptor_info (class_edits set c.args.news.now) class_width (renewed_class set c.args.news.now) c.args.info.now
    (patched_all (descriptor_edits set c.args.news.now d.classes) c.args.info.now) c.classes.at (described_left c.classes.class-iterator) c.classes.info
    (described_class_seen c.in-Some.class) (described_left c.next.new.self) (class_item set c.args.news.now c.args.info.now) c.classes.invariant
    c.in-Some.ensures.steps in
    n.within

pub classes-preserved : goal.classes-preserved
classes-preserved c =
    let set = holds c.args.interfaces.now in
    let d = descriptor_seen c.args.descriptor.now in
    renewing_more class_descriptor_info (class_edits set c.args.news.now) class_width (renewed_class set c.args.news.now) c.args.info.now
    (patched_all (descriptor_edits set c.args.news.now d.classes) c.args.info.now) c.classes.at (described_left c.classes.class-iterator) c.classes.info
    (described_class_seen c.in-Some.class) (described_left c.next.new.self)
    c.write_class-at.result c.write_class-at.new.info (class_item set c.args.news.now c.args.info.now) c.classes.invariant c.in-Some.ensures.steps
    c.write_class-at.ensures.end c.write_class-at.ensures.value c.write_class-at.ensures.long

pub returns-clause-renewed : goal.returns-clause-renewed
returns-clause-renewed c =
    let set = holds c.args.interfaces.now in
    let d = descriptor_seen c.args.descriptor.now in
    let v : c.classes.info ≡ patched_all (descriptor_edits set c.args.news.now d.classes) c.args.info.now = search rules in
    rw v
    (c.patches_renew.ensures (descriptor_edits set c.args.news.now d.classes) c.args.info.now
    (descriptor_inside set c.args.news.now c.args.info.now d c.requires)
    (descriptor_fit set c.args.news.now c.args.info.now d c.are_bytes.ensures c.are_small.ensures c.requires))

pub returns-clause-stands : goal.returns-clause-stands
returns-clause-stands c =
    let set = holds c.args.interfaces.now in
    let d = descriptor_seen c.args.descriptor.now in
    let v : c.classes.info ≡ patched_all (descriptor_edits set c.args.news.now d.classes) c.args.info.now = search rules in
    let r : Renews (descriptor_edits set c.args.news.now d.classes) c.args.info.now c.classes.info =
    rw v
    (c.patches_renew.ensures (descriptor_edits set c.args.news.now d.classes) c.args.info.now
    (descriptor_inside set c.args.news.now c.args.info.now d c.requires)
    (descriptor_fit set c.args.news.now c.args.info.now d c.are_bytes.ensures c.are_small.ensures c.requires)) in
    (descriptor_renewed set c.args.news.now c.args.info.now c.classes.info d c.requires r).stands
