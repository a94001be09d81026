-- Laws of steps and runs.
use Rattle.std.specs.Prelude.{◌≡◌, ℕ, ◌+◌}
use Rattle.jc_base.specs.World.{Linked}
use Rattle.vm_store.specs.declared.cell.Cell.{Cell}
use Rattle.vm_store.specs.Cells.{Cells, tagged}
use Rattle.vm_store.specs.State.{State, IsRunning}
use Rattle.vm_step.specs.Raising.{Outcome}
use Rattle.vm_step.specs.Step.{Steps}
use Rattle.vm_step.specs.Run.{Runs, Continues}

-- a step has one outcome
abbrev pub StepsAreOne : {A : Type 0} → Cells A → Linked → Type 0
StepsAreOne {A} k w = (s : State A) (o p : Outcome A) → Steps k w s o → Steps k w s p → o ≡ p

-- and in each state in which a method runs there is a step, where cells are tagged
abbrev pub StepsExist : Linked → Type 0
StepsExist w = (s : State Cell) → IsRunning s → (o : Outcome Cell) × Steps tagged w s o

-- so has a run of so many steps, from a state as after an ending
abbrev pub RunsAreOne : {A : Type 0} → Cells A → Linked → Type 0
RunsAreOne {A} k w = (n : ℕ) (x o p : Outcome A) → Continues k w n x o → Continues k w n x p → o ≡ p

-- and there is one of each number of steps, where cells are tagged and a method runs
abbrev pub RunsExist : Linked → Type 0
RunsExist w = (n : ℕ) (s : State Cell) → IsRunning s → (o : Outcome Cell) × Runs tagged w n s o

-- m steps and then n are m + n
abbrev pub RunsGoOn : {A : Type 0} → Cells A → Linked → Type 0
RunsGoOn {A} k w = (m n : ℕ) (x y z : Outcome A) → Continues k w m x y → Continues k w n y z → Continues k w (m + n) x z
