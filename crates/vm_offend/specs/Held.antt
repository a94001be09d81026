-- What the machine and the memory of a run hold: the words of a state that a run of tagged cells reaches.
use Rattle.std.specs.Prelude.{◌≡◌, ℕ, List, Option, Some, None, option_map}
use Rattle.jc_base.specs.World.{Linked}
use Rattle.vm_store.specs.declared.cell.Cell.{Cell}
use Rattle.vm_store.specs.Cells.{tagged}
use Rattle.vm_store.specs.State.{State}
use Rattle.vm_step.specs.declared.ending.Ending.{Ending}
use Rattle.vm_step.specs.declared.ending.Ending.TheVariants as endings
use Rattle.vm_step.specs.declared.ending.Plain.{Plain}
use Rattle.vm_step.specs.Arguments.{Argument}
use Rattle.vm_step.specs.Raising.{Outcome, running, ended}
use Rattle.vm_step.specs.Run.{Runs, Continues}
use Rattle.vm_step.specs.Start.{Starts}
use Rattle.vm_run.specs.Turn.{with_ending}
use Rattle.vm_offend.specs.Words.{AreLaid, words_state}
use Rattle.law_erasure.specs.Erasure.{erased_outcome}
use Rattle.vm_defend.specs.Held.{answer}
use Rattle.vm_offend.specs.declared.machine.Machine.{Machine}
use Rattle.vm_offend.specs.Sized.{AreSized}

-- what came of the steps so far: the state that the memory holds, with the ending, once there is one
abbrev pub reached : Linked → Machine → List ℕ → List ℕ → List ℕ → Outcome ℕ
reached w m ram heap statics = with_ending (option_map endings.Plain m.ending) (words_state w.methods ram heap statics m.counts)

-- the memory holds the words of what a run of tagged cells came to: of its frames, of the objects that exist and of all static fields
pub record AreWordsOf (w : Linked) (m : Machine) (ram heap statics : List ℕ) (o : Outcome Cell) : Type 0 where
  pub sized : AreSized w ram heap statics
  pub laid : AreLaid w ram heap m.counts
  pub words : reached w m ram heap statics ≡ erased_outcome o

-- a run that begins in the world, of some entry with some arguments, comes to it in some number of steps
pub record IsOutcomeOfRun (w : Linked) (o : Outcome Cell) : Type 0 where
  pub entry : ℕ
  pub args : List Argument
  pub start : State Cell
  pub starts : Starts tagged w entry args start
  pub steps : ℕ
  pub runs : Runs tagged w steps start o

-- a run that was begun in the world
pub record IsRunOf (w : Linked) (m : Machine) (ram heap statics : List ℕ) : Type 0 where
  pub outcome : Outcome Cell
  pub reached : IsOutcomeOfRun w outcome
  pub words : AreWordsOf w m ram heap statics outcome

-- the state that a run came to, and its ending, where it has one
abbrev pub state_of : {A : Type 0} → Outcome A → State A
state_of (running s) = s
state_of (ended ending s) = s

abbrev pub ending_of : {A : Type 0} → Outcome A → Option Ending
ending_of (running s) = None
ending_of (ended ending s) = Some ending

-- after at most so many steps more the memory holds the words of what the run of tagged cells comes to, and the answer is its ending, or
-- Spent where it goes on
pub record Follows
    (w : Linked) (budget : ℕ) (before : Outcome Cell) (m : Machine) (ram heap statics : List ℕ) (plain : Plain)
    : Type 0 where
  pub after : Outcome Cell
  pub runs : Continues tagged w budget before after
  pub words : AreWordsOf w m ram heap statics after
  pub answers : answer (ending_of after) ≡ endings.Plain plain
