use Rattle.std.proofs.Common.{◌≡◌, ℕ, vec_len}
use Rattle.std.specs.Prelude.{IfSome, slice_get, length}
use Rattle.std.specs.Vec.{vec_capacity}
use Rattle.jc_control.specs.WellFormed.{IsPlace}
use Rattle.jc_control.specs.Flags.{Marks}
use Rattle.vm_step.specs.Methods.{code_at}
use Rattle.vm_run.proofs.places.MarkedPlaces.of.Given as goal

abbrev pub invariant-methods : goal.invariant-methods
invariant-methods l = record {
  count : vec_len l.methods ≡ l.n;
  size : length l.methods.items ≡ l.n;
  room : vec_capacity l.methods ≡ length l.world.methods;
  marks : (n : ℕ) → IfSome (slice_get l.methods.items n) (Marks (IsPlace (code_at l.world n)));
}
