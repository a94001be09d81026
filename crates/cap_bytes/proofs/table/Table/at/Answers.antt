use Rattle.cap_bytes.specs.Grammar.{u2, any}
use Rattle.cap_bytes.proofs.Wide.{nth_given, nth_not, wide_number}
use Rattle.cap_bytes.proofs.table.Table.at.Goals as goal

pub returns-in-Ok : goal.returns-in-Ok
returns-in-Ok c = nth_given 2 u2 _ _ _ _ _ _ (wide_number 2 any) c.args.self.now.known c.if-n-self.false c.ahead-there.ensures c.in-Ok.ensures

pub returns-in-Err : goal.returns-in-Err
returns-in-Err c = nth_not _ 2 u2 _ _ _ _ _ (wide_number 2 any) c.args.self.now.known c.if-n-self.false c.ahead-there.ensures c.in-Err.ensures
