use Rattle.std.proofs.Common.{◌≡◌, ◌≤◌, length, ap, arith, rules}
use Rattle.cap_bytes.specs.declared.view.View.{View}
use Rattle.cap_package.proofs.InfoLaws.{info-short}
use Rattle.cap_renewal.proofs.names.export_file.Goals as goal

pub file_of-requires : goal.file_of-requires
file_of-requires c =
    let h = c.in-Some.ensures.info in
    let short : length c.in-Some.export.info.bytes.now ≤ 65535 = info-short 10 h.file c.in-Some.export.info.bytes.now h.framed in
    let same : length c.info.result.bytes.now ≡ length c.in-Some.export.info.bytes.now = ap (λ (v : View). length v.bytes.now) c.info.ensures in
    let copied : length c.in_ok-info.info.items ≡ length c.info.result.bytes.now = search rules in
    let long = c.renew_export.ensures.renewed.long in
    omega arith
