use Rattle.std.proofs.Common.{length}
use Rattle.xf_tests.proofs.fitting.+label_count.Given as goal

abbrev pub decreases-label_count : goal.decreases-label_count
decreases-label_count l = length l.items.now
