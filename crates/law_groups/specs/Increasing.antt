-- An increment of a local in laid code.
use Rattle.std.specs.Prelude.{ℕ, ℤ}
use Rattle.jc_base.specs.World.{Linked}
use Rattle.jc_decode.specs.declared.insn.Placed.{Placed}
use Rattle.jc_ops.specs.declared.operation.Operation.TheVariants.{Increment}
use Rattle.jc_ops.specs.declared.operation.Width.{Width}
use Rattle.vm_store.specs.declared.cell.Cell.{Cell}
use Rattle.vm_store.specs.Cells.{tagged}
use Rattle.vm_store.specs.State.{State}
use Rattle.vm_step.specs.Raising.{Outcome}
use Rattle.vm_step.specs.Step.{Steps}
use Rattle.law_erasure.specs.Erasure.{IsNoFault}
use Rattle.xf_homes.specs.Source.{Source}
use Rattle.law_groups.specs.Laid.{IsLaidIn}
use Rattle.law_groups.specs.Body.{AreAtBody, BodyRuns}

-- the steps for it come to what it does
abbrev pub IncrementBodiesRun : Linked → Type 0
IncrementBodiesRun v =
    (w : Linked) (s : Source) (place : ℕ → ℕ) (i : Placed) (width : Width) (x : ℕ) (amount : ℤ) (z t : State Cell)
    (o : Outcome Cell)
    → IsLaidIn v w s place
    → AreAtBody v w s place i (Increment width x amount) z t
    → Steps tagged v z o
    → IsNoFault o
    → BodyRuns v w s place i (Increment width x amount) z t o
