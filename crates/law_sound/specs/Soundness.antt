-- Typed code never goes wrong: from a typed state a machine that tests every cell comes to typed states and plain endings alone.
use Rattle.std.specs.Prelude.{◌≡◌, ℕ, List}
use Rattle.jc_base.specs.declared.ty.Ty.{Ty}
use Rattle.jc_base.specs.World.{Linked}
use Rattle.jc_control.specs.Method.{Method, IsMethodOf}
use Rattle.jc_rules.specs.Flow.{FlowTyping, HasFlowTyping}
use Rattle.vm_store.specs.declared.cell.Cell.{Cell}
use Rattle.vm_store.specs.Cells.{tagged}
use Rattle.vm_store.specs.State.{State}
use Rattle.vm_step.specs.declared.ending.Ending.TheVariants.{Plain, Faulted}
use Rattle.vm_step.specs.Raising.{Outcome, running, ended}
use Rattle.vm_step.specs.Step.{Steps}
use Rattle.vm_step.specs.Run.{Runs}
use Rattle.vm_step.specs.declared.ending.Fault.{Fault}
use Rattle.vm_step.specs.Arguments.{Argument}
use Rattle.vm_step.specs.Start.{Starts}
use Rattle.law_sound.specs.Frames.{Typings}
use Rattle.law_sound.specs.State.{IsTypedState}

-- each method with code has a dataflow typing, where an unset register is of the type `unset`
abbrev pub AreTypedMethods : Linked → Ty → Type 0
AreTypedMethods w unset = (m : Method) → IsMethodOf w m → HasFlowTyping w m unset

-- each method with code is typed as said
abbrev pub AreTypings : Linked → Typings → Type 0
AreTypings w typings = (m : Method) → IsMethodOf w m → FlowTyping w m (typings.unset m.number) (typings.frames m.number)

-- there are such typings with one type for unset registers, where each method has one
pub record HasTypings (w : Linked) (unset : Ty) : Type 0 where
  pub typings : Typings
  pub are : AreTypings w typings
  pub unset_is : (n : ℕ) → typings.unset n ≡ unset

abbrev pub TypedMethodsHaveTypings : Linked → Type 0
TypedMethodsHaveTypings w = (unset : Ty) → AreTypedMethods w unset → HasTypings w unset

-- no fault, and a typed state
abbrev pub IsTypedOutcome : Linked → Typings → Outcome Cell → Type 0
IsTypedOutcome w typings (running s) = IsTypedState w typings s
IsTypedOutcome w typings (ended (Plain plain) s) = IsTypedState w typings s
IsTypedOutcome w typings (ended (Faulted fault) s) = ⊥

-- a step from a typed state leads to a typed state, or ends the run with no fault
abbrev pub StepsAreSafe : Linked → Type 0
StepsAreSafe w =
    (typings : Typings) (s : State Cell) (o : Outcome Cell)
    → AreTypings w typings → IsTypedState w typings s → Steps tagged w s o → IsTypedOutcome w typings o

-- and so does a run of any number of steps
abbrev pub RunsAreSafe : Linked → Type 0
RunsAreSafe w =
    (typings : Typings) (n : ℕ) (s : State Cell) (o : Outcome Cell)
    → AreTypings w typings → IsTypedState w typings s → Runs tagged w n s o → IsTypedOutcome w typings o

-- a run begins in a typed state
abbrev pub StartsAreTyped : Linked → Type 0
StartsAreTyped w =
    (typings : Typings) (entry : ℕ) (args : List Argument) (s : State Cell)
    → AreTypings w typings → Starts tagged w entry args s → IsTypedState w typings s

-- no run that begins meets a fault: for every entry, all arguments with which it begins and any number of steps
abbrev pub IsFaultFree : Linked → Type 0
IsFaultFree w =
    (entry : ℕ) (args : List Argument) (s z : State Cell) (n : ℕ) (fault : Fault)
    → Starts tagged w entry args s → ¬ (Runs tagged w n s (ended (Faulted fault) z))

abbrev pub TypedCodeIsFaultFree : Linked → Type 0
TypedCodeIsFaultFree w = (unset : Ty) → AreTypedMethods w unset → IsFaultFree w
