use Rattle.std.proofs.Common.{◌<◌, length, IfSome, slice_get}
use Rattle.jc_ops.specs.Resolve.{passes_test, is_described}
use Rattle.jc_ops.proofs.Described.{Finds}
use Rattle.jc_ops.proofs.calls.only_described.Given as goal

abbrev pub invariant-methods : goal.invariant-methods
invariant-methods l = record {
  inside : IfSome l.found (λ n. n < length l.world.methods);
  finds : Finds (λ n. passes_test (is_described l.interface l.token) (slice_get l.world.methods n)) (length l.world.methods) l.found l.n;
}
