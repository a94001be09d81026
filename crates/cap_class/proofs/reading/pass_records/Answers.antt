use Rattle.std.proofs.Common.{◌<◌, ◌≤◌, length, arith}
use Rattle.cap_bytes.proofs.UntilLoops.{until_more, until_all}
use Rattle.cap_class.specs.ClassFormat.{record_info, is_after}
use Rattle.cap_class.proofs.Records.{advances, counted}
use Rattle.cap_class.proofs.reading.pass_records.Goals as goal

pub records-preserved : goal.records-preserved
records-preserved c =
    let lt : c.records.items.at < length c.records.items.info.bytes.now = omega arith in
    let on = advances _ _ _ _ c.in_ok-class.ensures in
    rw c.is_after-after_class.ensures (record {
      passed = until_more record_info is_after _ _ _ _ _ _ _ c.records.invariant.passed lt c.in_ok-class.ensures on;
      few = omega arith;
    })

pub returns : goal.returns
returns c =
    let le : length c.records.items.info.bytes.now ≤ c.records.items.at = omega arith in
    let t = until_all record_info is_after _ _ _ _ _ c.records.invariant.passed le in
    (t.0, t.1, counted _ _ t.0 _ t.1 t.2)
