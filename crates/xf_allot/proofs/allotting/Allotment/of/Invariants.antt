use Rattle.std.proofs.Common.{◌≡◌, ◌≤◌, ℕ, length}
use Rattle.std.specs.Prelude.{Some, slice_get}
use Rattle.xf_allot.proofs.allotting.Allotment.of.Given as goal

abbrev pub invariant-arguments : goal.invariant-arguments
invariant-arguments l = record {
  within : l.register ≤ l.subject.rec.now.nargs;
  count : length l.numbers.items ≡ l.register;
  same : (x n : ℕ) → slice_get l.numbers.items x ≡ Some n → n ≡ x;
}
