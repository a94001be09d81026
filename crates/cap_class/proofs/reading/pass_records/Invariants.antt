use Rattle.std.proofs.Common.{◌-◌, length}
use Rattle.cap_class.proofs.Records.{HavePassed}
use Rattle.cap_class.proofs.reading.pass_records.Given as goal

abbrev pub invariant-records : goal.invariant-records
invariant-records l = HavePassed l.initial.items l.count l.items l.after_class

abbrev pub decreases-records : goal.decreases-records
decreases-records l = length l.items.info.bytes.now - l.items.at
