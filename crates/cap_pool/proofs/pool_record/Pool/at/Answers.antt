use Rattle.cap_bytes.proofs.Wide.{nth_given, nth_not}
use Rattle.cap_pool.specs.PoolFormat.{entry_info}
use Rattle.cap_pool.proofs.EntryWidth.{entry_wide}
use Rattle.cap_pool.proofs.pool_record.Pool.at.Goals as goal

pub returns-in-Ok : goal.returns-in-Ok
returns-in-Ok c = nth_given 4 entry_info _ _ _ _ _ _ entry_wide c.args.self.now.entries.known c.if-n-self.false c.ahead-there.ensures c.in-Ok.ensures

pub returns-in-Err : goal.returns-in-Err
returns-in-Err c = nth_not _ 4 entry_info _ _ _ _ _ entry_wide c.args.self.now.entries.known c.if-n-self.false c.ahead-there.ensures c.in-Err.ensures
