use Rattle.std.proofs.Common.{◌≡◌, take}
use Rattle.std.specs.Prelude.{sum_by}
use Rattle.jc_base.specs.declared.record.StaticRec.{StaticRec}
use Rattle.jc_base.specs.Cell.{width}
use Rattle.vm_defend.proofs.starting.static_cells.Given as goal

abbrev pub invariant-fields : goal.invariant-fields
invariant-fields l = l.cells ≡ sum_by (λ (f : StaticRec). width f.kind) (take l.n l.world.statics)
