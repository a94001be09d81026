use Rattle.std.specs.List.{AllWithin}
use Rattle.xf_tests.specs.Fitting.{Suits}
use Rattle.xf_tests.proofs.fitting.are_items.Given as goal

abbrev pub invariant-items : goal.invariant-items
invariant-items l = AllWithin (Suits l.source.bytes.now l.items) l.items 0 l.item-index
