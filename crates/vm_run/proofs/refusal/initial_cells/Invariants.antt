use Rattle.std.proofs.Common.{◌≡◌, take, length}
use Rattle.std.specs.Prelude.{sum_by}
use Rattle.jc_base.specs.declared.record.ArrayRec.{ArrayRec}
use Rattle.vm_run.proofs.refusal.initial_cells.Given as goal

abbrev pub invariant-arrays : goal.invariant-arrays
invariant-arrays l = l.cells ≡ sum_by (λ (a : ArrayRec). length a.initial) (take l.n l.world.arrays)
