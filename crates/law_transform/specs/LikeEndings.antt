-- Laws of worlds in which methods are rewritten.
use Rattle.std.specs.Prelude.{ℕ, List, Option}
use Rattle.cap_package.specs.PackageRecord.{PackageRecord}
use Rattle.cap_package.specs.Parts.{Lent}
use Rattle.cap_package.specs.StandsFor.{StandsFor}
use Rattle.law_package.specs.Rewritten.{IsRewritten}
use Rattle.card_typing.specs.Typing.{HasCardTyping}
use Rattle.jc_base.specs.World.{Linked}
use Rattle.jc_control.specs.Asked.{AllHave, IsOfLibrary}
use Rattle.jc_decode.specs.declared.symbols.Laid.{Laid}
use Rattle.jc_link.specs.World.{IsLinked}
use Rattle.law_relink.specs.Last.{and_last}
use Rattle.law_sound.specs.Frames.{Typings}
use Rattle.law_alike.specs.Ends.{EndsAlike}
use Rattle.law_transform.specs.Laid.{AreLaidOf}
use Rattle.law_transform.specs.AcceptedWorld.{IsWorldAnew}
use Rattle.vm_store.specs.declared.cell.Cell.{Cell}
use Rattle.vm_store.specs.Cells.{tagged}
use Rattle.vm_store.specs.State.{State}
use Rattle.vm_step.specs.Arguments.{Argument}
use Rattle.vm_step.specs.Raising.{Outcome, running}
use Rattle.vm_step.specs.Start.{Starts}
use Rattle.vm_step.specs.Step.{Steps}
use Rattle.law_groups.specs.Comes.{ComesWithin}
use Rattle.law_transform.specs.Beside.{AreBeside, OutcomesBeside}
use Rattle.law_transform.specs.Counterparts.{AreCounterparts}

-- a world ends alike with each that keeps its methods or has them rewritten
abbrev pub CounterpartsEndAlike : Linked → Type 0
CounterpartsEndAlike v = (w : Linked) (typings : Typings) → AreCounterparts v w typings → EndsAlike v w

-- each step of the first world is met in the second: from states beside each other at least one step and at most 2,000 lead to states
-- beside each other again, or to the same ending with equal objects and static fields
abbrev pub StepsAreMet : Linked → Type 0
StepsAreMet v =
    (w : Linked) (typings : Typings) (z t : State Cell) (o : Outcome Cell)
    → AreCounterparts v w typings
    → AreBeside v w typings z t
    → Steps tagged v z o
    → ComesWithin w 1 2000 t (OutcomesBeside v w typings o)

-- a start is met: the second world starts too, and at most 1,000 steps lead to a state beside the first one's
pub record IsStartMet (v w : Linked) (typings : Typings) (entry : ℕ) (args : List Argument) (z : State Cell) : Type 0 where
  pub start : State Cell
  pub starts : Starts tagged w entry args start
  pub comes : ComesWithin w 0 1000 start (OutcomesBeside v w typings (running z))

abbrev pub StartsAreMet : Linked → Type 0
StartsAreMet v =
    (w : Linked) (typings : Typings) (entry : ℕ) (args : List Argument) (z : State Cell)
    → AreCounterparts v w typings
    → Starts tagged v entry args z
    → IsStartMet v w typings entry args z

-- where the libraries are accepted and the last package is written with what is laid for its methods, the world that they make ends
-- alike with the former one
abbrev pub LaidEndAlike : Linked → Type 0
LaidEndAlike v =
    (libraries : List PackageRecord) (source made : PackageRecord) (parts new_parts : List Lent)
    (roles : List ℕ) (laid : List (Option Laid)) (w : Linked)
    → StandsFor parts source
    → StandsFor new_parts made
    → IsRewritten source laid made
    → IsLinked (and_last libraries source) roles v
    → AllHave (IsOfLibrary v) (HasCardTyping v)
    → AreLaidOf v laid
    → IsWorldAnew libraries made roles v w
    → EndsAlike v w

-- and each method with code is kept in it, or rewritten by its typing
abbrev pub LaidAreCounterparts : Linked → Type 0
LaidAreCounterparts v =
    (libraries : List PackageRecord) (source made : PackageRecord) (parts new_parts : List Lent)
    (roles : List ℕ) (laid : List (Option Laid)) (w : Linked)
    → StandsFor parts source
    → StandsFor new_parts made
    → IsRewritten source laid made
    → IsLinked (and_last libraries source) roles v
    → AllHave (IsOfLibrary v) (HasCardTyping v)
    → AreLaidOf v laid
    → IsWorldAnew libraries made roles v w
    → (typings : Typings) × AreCounterparts v w typings
