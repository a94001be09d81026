use Rattle.std.proofs.Common.{◌≡◌, take}
use Rattle.jc_decode.specs.Symbols.{plain_size}
use Rattle.xf_tests.proofs.fitting.size.Given as goal

abbrev pub invariant-sum : goal.invariant-sum
invariant-sum l = l.total ≡ plain_size (take l.item-index l.items)
