use Rattle.std.proofs.Common.{rules}
use Rattle.cap_frame.specs.Directory.{custom_seen}
use Rattle.cap_frame.proofs.Customs.{named_more}
use Rattle.cap_frame.proofs.readers.customs.Goals as goal

pub customs-preserved : goal.customs-preserved
customs-preserved c =
    named_more _ _ c.customs.counter c.customs.items c.customs.named (custom_seen c.in_ok-custom.custom) c.new_custom.new.items
    c.customs.invariant c.customs-test.true c.in_ok-custom.ensures (search rules)
