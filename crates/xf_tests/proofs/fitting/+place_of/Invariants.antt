use Rattle.std.proofs.Common.{length}
use Rattle.xf_tests.proofs.fitting.+place_of.Given as goal

abbrev pub decreases-place_of : goal.decreases-place_of
decreases-place_of l = length l.items.now
