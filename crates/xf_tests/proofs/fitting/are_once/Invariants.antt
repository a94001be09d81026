use Rattle.std.specs.List.{AllWithin}
use Rattle.xf_tests.specs.Fitting.{Stands}
use Rattle.xf_tests.proofs.fitting.are_once.Given as goal

abbrev pub invariant-labels : goal.invariant-labels
invariant-labels l = AllWithin (Stands l.items) l.labels 0 l.label-index
