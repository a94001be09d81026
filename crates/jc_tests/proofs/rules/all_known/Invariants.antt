use Rattle.std.proofs.Common.{take, All}
use Rattle.jc_base.specs.Order.{IsKnown}
use Rattle.jc_tests.proofs.rules.all_known.Given as goal

abbrev pub invariant-types : goal.invariant-types
invariant-types l = All (IsKnown l.classes) (take l.ty-index l.types)
