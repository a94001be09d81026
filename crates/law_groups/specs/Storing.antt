-- A store of a local in laid code.
use Rattle.std.specs.Prelude.{ℕ}
use Rattle.jc_base.specs.World.{Linked}
use Rattle.jc_decode.specs.declared.insn.Placed.{Placed}
use Rattle.jc_ops.specs.declared.operation.Operation.TheVariants.{Store}
use Rattle.jc_ops.specs.declared.operation.Sort.{Sort}
use Rattle.vm_store.specs.declared.cell.Cell.{Cell}
use Rattle.vm_store.specs.Cells.{tagged}
use Rattle.vm_store.specs.State.{State}
use Rattle.vm_step.specs.Raising.{Outcome}
use Rattle.vm_step.specs.Step.{Steps}
use Rattle.law_erasure.specs.Erasure.{IsNoFault}
use Rattle.xf_homes.specs.Source.{Source}
use Rattle.law_groups.specs.Laid.{IsLaidIn}
use Rattle.law_groups.specs.Beside.{StaysTyped}
use Rattle.law_groups.specs.Body.{AreAtBody, BodyRuns}

-- the steps for it come to what it does
abbrev pub StoreBodiesRun : Linked → Type 0
StoreBodiesRun v =
    (w : Linked) (s : Source) (place : ℕ → ℕ) (i : Placed) (letter : Sort) (x : ℕ) (z t : State Cell) (o : Outcome Cell)
    → IsLaidIn v w s place
    → AreAtBody v w s place i (Store letter x) z t
    → Steps tagged v z o
    → IsNoFault o
    → StaysTyped v s o
    → BodyRuns v w s place i (Store letter x) z t o
