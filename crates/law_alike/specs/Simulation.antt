-- A simulation between two worlds (Leroy 2002, section 4): a relation of their states that steps keep, within a bound.
use Rattle.std.specs.Prelude.{◌≡◌, ℕ, ◌+◌, ◌≤◌, List}
use Rattle.jc_base.specs.World.{Linked}
use Rattle.vm_store.specs.declared.cell.Cell.{Cell}
use Rattle.vm_store.specs.Cells.{tagged}
use Rattle.vm_store.specs.State.{State}
use Rattle.vm_step.specs.declared.ending.Ending.{Ending}
use Rattle.vm_step.specs.Arguments.{Argument}
use Rattle.vm_step.specs.Raising.{Outcome, running, ended}
use Rattle.vm_step.specs.Run.{Runs}
use Rattle.vm_step.specs.Start.{Starts, entry_state}
use Rattle.vm_step.specs.Step.{Steps}

-- both go on in states that are related, or both have ended in the same way with equal objects and static fields
pub data AreBoth (R : State Cell → State Cell → Type 0) : Outcome Cell → Outcome Cell → Type 0 where
  both_run : {z t : State Cell} → R z t → AreBoth R (running z) (running t)
  both_end :
      (ending : Ending) {z t : State Cell}
      → t.heap ≡ z.heap
      → t.statics ≡ z.statics
      → AreBoth R (ended ending z) (ended ending t)

-- at most so many steps follow one after which a run goes on; an ending comes at once
abbrev pub extra_after : ℕ → Outcome Cell → ℕ
extra_after extra (running s) = extra
extra_after extra (ended ending s) = 0

-- from a state so many steps, within these bounds, lead beside an outcome
pub record ComesBeside (w : Linked) (R : State Cell → State Cell → Type 0) (least most : ℕ) (t : State Cell) (o : Outcome Cell) : Type 0
  where
    pub count : ℕ
    pub more : least ≤ count
    pub fewer : count ≤ most
    pub outcome : Outcome Cell
    pub runs : Runs tagged w count t outcome
    pub both : AreBoth R o outcome

-- a step of the first is matched by at least one of the second: an ending within so many steps, another step with so many more
abbrev pub StepsMatch : Linked → Linked → (State Cell → State Cell → Type 0) → ℕ → ℕ → Type 0
StepsMatch v w R ending extra =
    (z t : State Cell) (o : Outcome Cell)
    → R z t
    → Steps tagged v z o
    → ComesBeside w R 1 (ending + extra_after extra o) t o

-- a run that begins in the first begins in the second, and comes beside it
abbrev pub StartsMatch : Linked → Linked → (State Cell → State Cell → Type 0) → ℕ → Type 0
StartsMatch v w R extra =
    (entry : ℕ) (args : List Argument) (s : State Cell)
    → Starts tagged v entry args s
    → ComesBeside w R 0 extra (entry_state tagged w entry args) (running s)
