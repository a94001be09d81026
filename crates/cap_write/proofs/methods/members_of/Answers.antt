use Rattle.std.proofs.Common.{◌≡◌, ℕ, Bool, List, map, ap, ◌∙◌}
use Rattle.offset_set.specs.Bits.{holds}
use Rattle.cap_bytes.specs.declared.view.View.{View}
use Rattle.cap_desc.specs.DescriptorFormat.{ClassDescriptor}
use Rattle.cap_desc.specs.Descriptors.{descriptor_seen}
use Rattle.cap_components.specs.Components.{Methods}
use Rattle.cap_components.specs.Descriptions.{Description}
use Rattle.cap_components.specs.PackageRecord.{names_interface}
use Rattle.cap_write.specs.Described.{member_seen, seen_classes, seen_package}
use Rattle.cap_write.proofs.Members.{may_be_written}
use Rattle.cap_write.proofs.Numbers.{few_members}
use Rattle.cap_write.proofs.Sources.{members_are}
use Rattle.cap_write.proofs.methods.members_of.Goals as goal

pub returns-clause-are : goal.returns-clause-are
returns-clause-are c =
    let p = c.args.package.now in
    let ls = c.args.laid.now in
    let ms = c.in_ok-members.members.items in
    let bytes : c.info.result.bytes.now ≡ p.methods.info = ap (λ (v : View). v.bytes.now) c.info.ensures
    ∙ ap (λ (m : Methods). m.info) c.methods-methods.ensures in
    let set : holds c.interface_offsets-interfaces.result ≡ names_interface p.classes = c.interface_offsets-interfaces.ensures
    ∙ ap names_interface c.classes.ensures.items in
    let items : (descriptor_seen c.descriptor-descriptor.result).classes ≡ p.description.items.classes = ap (λ (d : Description). d.items.classes)
    c.descriptor-descriptor.ensures in
    let are : map member_seen ms ≡ seen_package p ls =
    c.in_ok-members.ensures.seen ∙ ap (λ (s : ℕ → Bool). seen_classes s c.info.result.bytes.now (descriptor_seen c.descriptor-descriptor.result).classes ls) set
    ∙ ap (λ (b : List ℕ). seen_classes (names_interface p.classes) b (descriptor_seen c.descriptor-descriptor.result).classes ls) bytes
    ∙ ap (λ (cs : List ClassDescriptor). seen_classes (names_interface p.classes) p.methods.info cs ls) items in
    record {
      are = members_are p ls ms c.requires are;
      may = may_be_written p.parts p ls ms c.parts-parts.ensures.agree c.requires are;
      few = few_members p.parts p ls ms c.parts-parts.ensures.agree are;
    }
