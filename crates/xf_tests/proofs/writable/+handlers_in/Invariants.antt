use Rattle.std.proofs.Common.{length}
use Rattle.xf_tests.proofs.writable.+handlers_in.Given as goal

abbrev pub decreases-handlers_in : goal.decreases-handlers_in
decreases-handlers_in l = length l.laid.now
