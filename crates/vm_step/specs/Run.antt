-- Runs: so many steps from a state, or fewer where one ends the run.
use Rattle.std.specs.Prelude.{◌≡◌, ℕ, suc}
use Rattle.jc_base.specs.World.{Linked}
use Rattle.vm_store.specs.Cells.{Cells}
use Rattle.vm_store.specs.State.{State}
use Rattle.vm_step.specs.declared.ending.Ending.{Ending}
use Rattle.vm_step.specs.Raising.{Outcome, running, ended}
use Rattle.vm_step.specs.Step.{Steps}

-- the ending where one comes within so many steps from a state, and the state after them otherwise
pub data Runs {A : Type 0} (k : Cells A) (w : Linked) : ℕ → State A → Outcome A → Type 0 where
  stands : {s : State A} → Runs k w 0 s (running s)
  stops : {n : ℕ} {s z : State A} {ending : Ending} → Steps k w s (ended ending z) → Runs k w (suc n) s (ended ending z)
  steps : {n : ℕ} {s z : State A} {o : Outcome A} → Steps k w s (running z) → Runs k w n z o → Runs k w (suc n) s o

-- after an ending the same ending
abbrev pub Continues : {A : Type 0} → Cells A → Linked → ℕ → Outcome A → Outcome A → Type 0
Continues k w n (running s) o = Runs k w n s o
Continues k w n (ended ending s) o = o ≡ ended ending s
