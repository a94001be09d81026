use Rattle.std.proofs.Common.{◌≡◌, ◌≤◌, drop, length}
use Rattle.std.specs.Prelude.{map, sum_by}
use Rattle.jc_base.specs.declared.record.ArrayRec.{ArrayRec}
use Rattle.vm_step.specs.Arguments.{argument_of}
use Rattle.vm_step.specs.Start.{first_without_room}
use Rattle.vm_run.proofs.refusal.first_without_room.Given as goal

abbrev pub invariant-each : goal.invariant-each
invariant-each l = record {
  count : l.n ≡ l.arg-index;
  objects : l.objects ≤ 4096;
  cells : l.cells ≤ 32768;
  same : first_without_room l.n l.objects l.cells (map argument_of (drop l.arg-index l.arg-items))
      ≡ first_without_room 0 (length l.world.arrays) (sum_by (λ (a : ArrayRec). length a.initial) l.world.arrays) l.args;
}
