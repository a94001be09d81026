use Rattle.std.specs.List.{AllWithin}
use Rattle.xf_tests.specs.Fitting.{Covers}
use Rattle.xf_tests.proofs.fitting.are_ranges.Given as goal

abbrev pub invariant-each : goal.invariant-each
invariant-each l = AllWithin (Covers l.items) l.ranges 0 l.range-index
