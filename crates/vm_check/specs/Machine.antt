-- What the code of every machine rests on: where the tests before an operation pass, the state has what it asks.
use Rattle.std.specs.Prelude.{◌≡◌, ℕ, ◌≤◌, None, Ok}
use Rattle.jc_base.specs.declared.record.MethodRec.{MethodRec}
use Rattle.jc_base.specs.World.{Linked}
use Rattle.jc_decode.specs.declared.insn.Placed.{Placed}
use Rattle.jc_ops.specs.declared.operation.Operation.{Operation}
use Rattle.jc_ops.specs.Resolve.{Resolves}
use Rattle.vm_store.specs.Cells.{Cells}
use Rattle.vm_store.specs.State.{State, top}
use Rattle.vm_step.specs.Methods.{max_stack_of}
use Rattle.vm_step.specs.declared.ending.Ending.{Ending}
use Rattle.vm_step.specs.Raising.{running, ended}
use Rattle.vm_step.specs.Step.{Fetches, Steps}
use Rattle.vm_step.specs.Tests.{fault_before}
use Rattle.vm_act.specs.Reaches.{Reaches}
use Rattle.vm_check.specs.Shaped.{IsShaped, HasKnownTypes}

-- each state that is kept has frames, objects and static fields of the world
abbrev pub KeepsShape : {A : Type 0} → (State A → Type 0) → Linked → Type 0
KeepsShape {A} keeps w = (s : State A) → keeps s → IsShaped w s

abbrev pub KnowsTypes : {A : Type 0} → Cells A → (State A → Type 0) → Linked → Type 0
KnowsTypes {A} k keeps w = (s : State A) → keeps s → HasKnownTypes k w.classes s

-- an operation that passes the tests has what it asks; a method's operand stack has 255 cells at most
abbrev pub TestsReach : {A : Type 0} → ℕ → Cells A → (State A → Type 0) → Linked → Type 0
TestsReach {A} room k keeps w =
    (s : State A) (m : MethodRec) (i : Placed) (op : Operation)
    → keeps s
    → Fetches w s m i
    → max_stack_of w (top s).method ≤ 255
    → Resolves w m i.place i.insn (Ok op)
    → fault_before k w op s ≡ None
    → Reaches room k w i.insn op s

-- a step that goes on keeps it
abbrev pub StepsStay : {A : Type 0} → Cells A → (State A → Type 0) → Linked → Type 0
StepsStay {A} k keeps w = (s z : State A) → keeps s → Steps k w s (running z) → keeps z

-- a step that ends the run keeps the shape of objects and static fields
abbrev pub StepsEnd : {A : Type 0} → Cells A → (State A → Type 0) → Linked → Type 0
StepsEnd {A} k keeps w = (s z : State A) (e : Ending) → keeps s → Steps k w s (ended e z) → IsShaped w z
