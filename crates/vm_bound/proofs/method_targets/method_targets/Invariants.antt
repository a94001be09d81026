use Rattle.std.specs.Prelude.{IsSomeAnd, slice_get}
use Rattle.jc_decode.specs.Instructions.{rest_of}
use Rattle.vm_bound.proofs.Targeting.{IsWalked}
use Rattle.vm_bound.proofs.method_targets.method_targets.Given as goal

abbrev pub invariant-walk : goal.invariant-walk
invariant-walk l = IsSomeAnd (slice_get l.world.methods l.method) (λ rec. IsWalked l.world l.method rec (rest_of l.placed-iterator) l.targets.items)
