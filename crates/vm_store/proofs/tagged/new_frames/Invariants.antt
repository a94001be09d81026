use Rattle.std.proofs.Common.{◌≡◌, vec_len}
use Rattle.std.specs.Vec.{vec_capacity}
use Rattle.vm_store.proofs.tagged.new_frames.Given as goal

abbrev pub invariant-frames : goal.invariant-frames
invariant-frames l = (vec_len l.frames ≡ l._n) × (vec_capacity l.frames ≡ 64)
