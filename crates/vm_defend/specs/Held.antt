-- What a run of the machine holds, and what it answers.
use Rattle.std.specs.Prelude.{Bool, List, Option, Some, None, IfNone}
use Rattle.jc_base.specs.World.{Linked}
use Rattle.vm_store.specs.declared.cell.Cell.{Cell}
use Rattle.vm_store.specs.State.{State, IsRunning}
use Rattle.vm_step.specs.declared.ending.Ending.{Ending}
use Rattle.vm_step.specs.declared.ending.Ending.TheVariants.{Plain}
use Rattle.vm_step.specs.declared.ending.Plain.TheVariants.{Spent}
use Rattle.vm_step.specs.Raising.{Outcome}
use Rattle.vm_check.specs.Shaped.{IsShaped}
use Rattle.vm_run.specs.Marked.{AreMarked}
use Rattle.vm_run.specs.Turn.{with_ending}

-- the state that the run has reached, how it ended, once it has, and for each method of the world the places at which instructions
-- begin
pub record Held : Type 0 where
  pub state : State Cell
  pub ending : Option Ending
  pub places : List (List Bool)

-- what came of the steps so far
abbrev pub reached : Held → Outcome Cell
reached run = with_ending run.ending run.state

-- a run that was begun in a world
pub record IsRunOf (w : Linked) (run : Held) : Type 0 where
  pub places : AreMarked w run.places
  pub shaped : IsShaped w run.state
  pub going : IfNone run.ending (IsRunning run.state)

-- the ending, and Spent where none is reached
abbrev pub answer : Option Ending → Ending
answer None = Plain Spent
answer (Some ending) = ending
