use Rattle.std.proofs.Common.{◌<◌, ◌≤◌, ℕ, length, arith}
use Rattle.vm_store.specs.State.{State}
use Rattle.vm_offend.specs.Words.{objects_state}
use Rattle.vm_offend.proofs.Erased.{none-null, none-past}
use Rattle.vm_offend.proofs.object.object_kind.Goals.{else-handle-gt0-via-then-handle-gt0+else-handle-object_count, else-handle-gt0-via-else-handle-gt0}
use Rattle.vm_offend.proofs.object.object_kind.Goals as goal

pub returns-else-handle-gt0 : goal.returns-else-handle-gt0
returns-else-handle-gt0 c =
    let z : State ℕ = objects_state c.args.heap.now c.args.counts in
    elim c.else-handle-gt0.branch [
      | else-handle-gt0-via-then-handle-gt0+else-handle-object_count w ↦
          let past : length z.heap < c.args.handle = omega (arith, w.if-handle-object_count.false, w.object_count.ensures) in
          none-past z c.args.handle past
      | else-handle-gt0-via-else-handle-gt0 w ↦
          let null : c.args.handle ≤ 0 = omega (arith, w.if-handle-gt0.false) in
          none-null z c.args.handle null
    ]
