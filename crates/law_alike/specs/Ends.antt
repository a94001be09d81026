-- Runs that end alike (Leroy 2002, section 4): how a run ends, and what it leaves in objects and static fields.
use Rattle.std.specs.Prelude.{◌≡◌, ℕ, ◌*◌, List}
use Rattle.jc_base.specs.World.{Linked}
use Rattle.vm_store.specs.declared.cell.Cell.{Cell}
use Rattle.vm_store.specs.Cells.{tagged}
use Rattle.vm_store.specs.State.{State, Object}
use Rattle.vm_step.specs.declared.ending.Ending.{Ending}
use Rattle.vm_step.specs.Arguments.{Argument}
use Rattle.vm_step.specs.Raising.{running, ended}
use Rattle.vm_step.specs.Run.{Runs}
use Rattle.vm_step.specs.Start.{Starts, start_fault}

-- what a run leaves: how it ended, the objects and the static fields
pub record Left : Type 0 where
  pub ending : Ending
  pub heap : List (Object Cell)
  pub statics : List Cell

-- a run of the entry with these arguments begins, and within so many steps it ends and leaves this
pub record EndsWithin (w : Linked) (entry : ℕ) (args : List Argument) (count : ℕ) (left : Left) : Type 0 where
  pub start : State Cell
  pub starts : Starts tagged w entry args start
  pub last : State Cell
  pub runs : Runs tagged w count start (ended left.ending last)
  pub heap : last.heap ≡ left.heap
  pub statics : last.statics ≡ left.statics

-- such a run begins, and it has not ended after so many steps
pub record GoesOnFor (w : Linked) (entry : ℕ) (args : List Argument) (count : ℕ) : Type 0 where
  pub start : State Cell
  pub starts : Starts tagged w entry args start
  pub state : State Cell
  pub runs : Runs tagged w count start (running state)

-- two worlds end alike within a factor, where for every entry and all arguments: both refuse to begin for the same reason, or neither
-- does; what a run in the first ends with within n steps, one in the second ends with within factor * n steps; and where the first goes
-- on for n steps, so does the second
pub record EndsAlikeBy (factor : ℕ) (v w : Linked) : Type 0 where
  pub begins : (entry : ℕ) (args : List Argument) → start_fault w entry args ≡ start_fault v entry args
  pub ends :
      (entry : ℕ) (args : List Argument) (n : ℕ) (left : Left)
      → EndsWithin v entry args n left
      → EndsWithin w entry args (factor * n) left
  pub goes_on : (entry : ℕ) (args : List Argument) (n : ℕ) → GoesOnFor v entry args n → GoesOnFor w entry args n

-- code that is rewritten may take 2,000 steps for one
abbrev pub EndsAlike : Linked → Linked → Type 0
EndsAlike v w = EndsAlikeBy 2000 v w
