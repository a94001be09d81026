-- Reads and writes of fields of `this` in laid code (JCVM 2.2, section 7.5: getfield_<t>_this, putfield_<t>_this).
use Rattle.std.specs.Prelude.{ℕ}
use Rattle.jc_base.specs.World.{Linked}
use Rattle.jc_decode.specs.declared.insn.Placed.{Placed}
use Rattle.jc_ops.specs.declared.operation.Holder.TheVariants.{This}
use Rattle.jc_ops.specs.declared.operation.InstanceField.{InstanceField}
use Rattle.jc_ops.specs.declared.operation.Operation.TheVariants.{FieldRead, FieldWrite}
use Rattle.vm_store.specs.declared.cell.Cell.{Cell}
use Rattle.vm_store.specs.Cells.{tagged}
use Rattle.vm_store.specs.State.{State}
use Rattle.vm_step.specs.Raising.{Outcome}
use Rattle.vm_step.specs.Step.{Steps}
use Rattle.law_erasure.specs.Erasure.{IsNoFault}
use Rattle.xf_homes.specs.Source.{Source}
use Rattle.law_groups.specs.Laid.{IsLaidIn}
use Rattle.law_groups.specs.Beside.{StaysTyped}
use Rattle.law_groups.specs.Body.{AreAtBody, BodyRuns}

-- the steps for a read come to what it does
abbrev pub ThisReadsRun : Linked → Type 0
ThisReadsRun v =
    (w : Linked) (s : Source) (place : ℕ → ℕ) (i : Placed) (f : InstanceField) (z t : State Cell) (o : Outcome Cell)
    → IsLaidIn v w s place
    → AreAtBody v w s place i (FieldRead f This) z t
    → Steps tagged v z o
    → IsNoFault o
    → StaysTyped v s o
    → BodyRuns v w s place i (FieldRead f This) z t o

-- and those for a write
abbrev pub ThisWritesRun : Linked → Type 0
ThisWritesRun v =
    (w : Linked) (s : Source) (place : ℕ → ℕ) (i : Placed) (f : InstanceField) (z t : State Cell) (o : Outcome Cell)
    → IsLaidIn v w s place
    → AreAtBody v w s place i (FieldWrite f This) z t
    → Steps tagged v z o
    → IsNoFault o
    → StaysTyped v s o
    → BodyRuns v w s place i (FieldWrite f This) z t o
