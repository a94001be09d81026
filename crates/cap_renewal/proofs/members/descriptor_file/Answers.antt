use Rattle.std.proofs.Common.{◌≡◌, ◌≤◌, length, ap, ◌∙◌, arith, rules}
use Rattle.cap_bytes.specs.declared.view.View.{View}
use Rattle.cap_components.specs.Descriptions.{Description}
use Rattle.cap_package.proofs.InfoLaws.{info-short}
use Rattle.cap_renewal.proofs.members.descriptor_file.Goals as goal

pub file_of-requires : goal.file_of-requires
file_of-requires c =
    let h = c.parts-parts.ensures.agree.said.description in
    let short : length c.args.package.now.description.info ≤ 65535 = info-short 11 h.file c.args.package.now.description.info h.framed in
    let same : length c.info.result.bytes.now ≡ length c.args.package.now.description.info = ap (λ (v : View). length v.bytes.now) c.info.ensures
    ∙ ap (λ (d : Description). length d.info) c.descriptor-descriptor.ensures in
    let copied : length c.in_ok-info.info.items ≡ length c.info.result.bytes.now = search rules in
    let long = c.renew_descriptor.ensures.renewed.long in
    omega arith
