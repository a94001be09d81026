use Rattle.std.proofs.Common.{◌≡◌, [], ◌∷◌, length, All}
use Rattle.jc_base.specs.declared.record.Member.TheVariants.{ClassOf}
use Rattle.jc_base.specs.Linked.{IsHandler}
use Rattle.jc_tests.specs.OneMethod.{classes}
use Rattle.jc_tests.proofs.one_method.handlers.Given as goal

abbrev pub invariant-walk : goal.invariant-walk
invariant-walk l = record {
  fit : All (IsHandler classes (ClassOf 1 ∷ []) l.fn.len) l.items.items;
  count : length l.items.items ≡ l.range-index;
}
