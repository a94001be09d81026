use Rattle.std.proofs.Common.{◌≡◌, ℕ, Bool, List, sym, ap, subst, ◌∙◌}
use Rattle.std.specs.Prelude.{All}
use Rattle.offset_set.specs.Bits.{holds}
use Rattle.cap_desc.specs.DescriptorFormat.{ClassDescriptor}
use Rattle.cap_desc.specs.Descriptors.{descriptor_seen}
use Rattle.cap_components.specs.Components.{Methods}
use Rattle.cap_components.specs.MethodsSeen.{methods_seen}
use Rattle.cap_components.specs.Descriptions.{Description}
use Rattle.cap_components.specs.PackageRecord.{names_interface}
use Rattle.cap_listing.specs.Text.{IsMethod}
use Rattle.cap_listing.specs.Methods.{IsCounted, listed_in}
use Rattle.cap_listing.proofs.Handled.{methods-known}
use Rattle.cap_listing.proofs.package_methods.listed_methods.Goals as goal

pub returns-clause-value : goal.returns-clause-value
returns-clause-value c =
    let p = c.args.package.now in
    let set : holds c.interface_offsets-interfaces.result ≡ names_interface p.classes = c.interface_offsets-interfaces.ensures
    ∙ ap names_interface c.classes.ensures.items in
    let items : (descriptor_seen c.descriptor-descriptor.result).classes ≡ p.description.items.classes = ap (λ (d : Description). d.items.classes)
    c.descriptor-descriptor.ensures in
    c.of.ensures ∙ c.in_ok-listed.ensures.value
    ∙ ap (λ (s : ℕ → Bool). listed_in s (methods_seen c.methods-part.result) 0 (descriptor_seen c.descriptor-descriptor.result).classes) set
    ∙ ap (λ (m : Methods). listed_in (names_interface p.classes) m 0 (descriptor_seen c.descriptor-descriptor.result).classes) c.methods-part.ensures
    ∙ ap (λ (cs : List ClassDescriptor). listed_in (names_interface p.classes) p.methods 0 cs) items

pub returns-clause-methods : goal.returns-clause-methods
returns-clause-methods c =
    let same = returns-clause-value c in
    subst (All IsMethod) (sym same)
    (methods-known c.args.package.now c.parts-parts.ensures.agree
    (subst (All IsCounted) same (subst (All IsCounted) (sym c.of.ensures) c.in_ok-listed.ensures.counted)))
