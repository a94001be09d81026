-- The state in which a run begins has the shape of its world.
use Rattle.std.proofs.Common.{ℕ, List, [], length, arith}
use Rattle.jc_base.specs.Class.{ClassTable}
use Rattle.jc_base.specs.World.{Linked}
use Rattle.vm_store.specs.declared.cell.ObjectKind.{ObjectKind}
use Rattle.vm_store.specs.Cells.{tagged}
use Rattle.vm_step.specs.Arguments.{Argument}
use Rattle.vm_step.specs.Start.{entry_state}
use Rattle.vm_run.specs.Sized.{IsOfNumbers, HasEntrySizes}
use Rattle.vm_check.specs.Shaped.{IsShapedFor, IsShaped}

numbers-shaped : (t : ClassTable) (kind : ObjectKind) (count : ℕ) → IsOfNumbers kind → IsShapedFor t kind count
numbers-shaped t kind count h = grind (arith)

pub begun-shaped : (w : Linked) (entry : ℕ) (args : List Argument) → HasEntrySizes w entry (entry_state tagged w entry args)
    → IsShaped w (entry_state tagged w entry args)
begun-shaped w entry args size = grind (arith, numbers-shaped, length)
