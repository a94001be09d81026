use Rattle.std.proofs.Common.{length}
use Rattle.jc_base.specs.Class.{chain}
use Rattle.vm_store.proofs.Instances.{IsFilledAbove}
use Rattle.vm_store.proofs.fill.fill_instance.Given as goal

abbrev pub invariant-climb : goal.invariant-climb
invariant-climb g l = IsFilledAbove g.C.CellForm.cells l.world.classes l.initial.cells l.from l.class l.at l.cells

abbrev pub decreases-climb : goal.decreases-climb
decreases-climb g l = length (chain l.world.classes l.at)
