use Rattle.std.proofs.Common.{arith}
use Rattle.jc_tests.proofs.OneMethod.{caught_all}
use Rattle.jc_tests.proofs.caught.handler.Goals as goal

pub returns : goal.returns
returns c = caught_all c.args.len c.min.result c.min-end.result c.min-2.result (omega arith) (omega arith) (omega arith)
