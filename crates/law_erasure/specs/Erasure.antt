-- A step of a machine of tagged cells that meets no fault is the same step of a machine of bare words.
use Rattle.std.specs.Prelude.{◌≡◌, ℕ, List, map, Ok, ⊤}
use Rattle.jc_base.specs.declared.ty.Ty.{Ty}
use Rattle.jc_base.specs.declared.record.MethodRec.{MethodRec}
use Rattle.jc_base.specs.World.{Linked}
use Rattle.jc_decode.specs.declared.insn.Insn.{Insn}
use Rattle.jc_decode.specs.declared.insn.Placed.{Placed}
use Rattle.jc_ops.specs.declared.operation.Operation.{Operation}
use Rattle.jc_ops.specs.Resolve.{Resolves}
use Rattle.jc_rules.specs.declared.effect.Mode.TheVariants.{Flow}
use Rattle.jc_rules.specs.declared.rule.Outcome.{Outcome as Rule}
use Rattle.jc_rules.specs.Demand.{Frame as Types}
use Rattle.jc_rules.specs.Apply.{OperationApplies}
use Rattle.vm_store.specs.declared.cell.Cell.{Cell}
use Rattle.vm_store.specs.Cells.{tagged, words, word_of}
use Rattle.vm_store.specs.State.{State, IsRunning, top, erased}
use Rattle.vm_store.specs.Objects.{kinds}
use Rattle.vm_step.specs.declared.ending.Ending.TheVariants.{Plain, Faulted}
use Rattle.vm_step.specs.Act.{Act, goes, jumps, makes, calls, gives, raises, throws, lacks}
use Rattle.vm_step.specs.Performed.{act}
use Rattle.vm_step.specs.Raising.{Outcome, running, ended}
use Rattle.vm_step.specs.Step.{Fetches, Steps}
use Rattle.vm_step.specs.Run.{Runs}
use Rattle.vm_step.specs.Arguments.{Argument}
use Rattle.vm_step.specs.Start.{Starts}
use Rattle.law_sound.specs.Frames.{Typings, types_of_frame}
use Rattle.law_sound.specs.State.{IsTypedState}
use Rattle.law_sound.specs.Soundness.{AreTypedMethods, AreTypings}

-- the words of what an operation comes to
abbrev pub erased_act : Act Cell → Act ℕ
erased_act (goes z) = goes (erased z)
erased_act (jumps to z) = jumps to (erased z)
erased_act (makes kind cells reference z) = makes kind (map word_of cells) (λ h. word_of (reference h)) (erased z)
erased_act (calls method count z) = calls method count (erased z)
erased_act (gives value cells) = gives value (map word_of cells)
erased_act (raises exception) = raises exception
erased_act (throws handle) = throws handle
erased_act (lacks class) = lacks class

-- an operation on bare words comes to the words of what it comes to on tagged cells
abbrev pub ActsErase : Linked → Type 0
ActsErase w =
    (i : Insn) (op : Operation) (s : State Cell) → IsRunning s → act words w i op (erased s) ≡ erased_act (act tagged w i op s)

-- the words of an outcome
abbrev pub erased_outcome : Outcome Cell → Outcome ℕ
erased_outcome (running s) = running (erased s)
erased_outcome (ended ending s) = ended ending (erased s)

abbrev pub IsNoFault : {A : Type 0} → Outcome A → Type 0
IsNoFault (running s) = ⊤
IsNoFault (ended (Plain plain) s) = ⊤
IsNoFault (ended (Faulted fault) s) = ⊥

abbrev pub StepsErase : Linked → Type 0
StepsErase w = (s : State Cell) (o : Outcome Cell) → IsNoFault o → Steps tagged w s o → Steps words w (erased s) (erased_outcome o)

-- so is a run of any number of steps
abbrev pub RunsErase : Linked → Type 0
RunsErase w =
    (n : ℕ) (s : State Cell) (o : Outcome Cell) → IsNoFault o → Runs tagged w n s o
    → Runs words w n (erased s) (erased_outcome o)

-- and both machines begin alike
abbrev pub StartsErase : Linked → Type 0
StartsErase w =
    (entry : ℕ) (args : List Argument) (s : State Cell) → Starts tagged w entry args s → Starts words w entry args (erased s)

-- so where each method with code has a dataflow typing, what a run of bare words comes to, from the words of the state in which a run
-- begins, are the words of what the run of tagged cells comes to
abbrev pub WordsFollow : Linked → Type 0
WordsFollow w =
    (unset : Ty) → AreTypedMethods w unset
    → (entry : ℕ) (args : List Argument) (s : State Cell) (n : ℕ) (x : Outcome ℕ)
    → Starts tagged w entry args s → Runs words w n (erased s) x
    → (o : Outcome Cell) × Runs tagged w n s o × (x ≡ erased_outcome o)

-- ---- from a typed state

-- in such a world what a step of bare words comes to, from the words of a typed state, are the words of what the step of tagged cells
-- comes to
abbrev pub TypedStepsFollow : Linked → Type 0
TypedStepsFollow w =
    (typings : Typings) (s : State Cell) (x : Outcome ℕ)
    → AreTypings w typings
    → IsTypedState w typings s
    → Steps words w (erased s) x
    → (o : Outcome Cell) × Steps tagged w s o × (x ≡ erased_outcome o)

-- and so it is with a run of any number of steps
abbrev pub TypedRunsFollow : Linked → Type 0
TypedRunsFollow w =
    (typings : Typings) (n : ℕ) (s : State Cell) (x : Outcome ℕ)
    → AreTypings w typings
    → IsTypedState w typings s
    → Runs words w n (erased s) x
    → (o : Outcome Cell) × Runs tagged w n s o × (x ≡ erased_outcome o)

-- in a typed state the rule of the instruction applies to the least types of the cells, on the operand stack that the method declares
abbrev pub TypedStatesApply : Linked → Type 0
TypedStatesApply w =
    (typings : Typings) (s : State Cell) (m : MethodRec) (i : Placed) (op : Operation)
    → IsTypedState w typings s
    → Fetches w s m i
    → Resolves w m i.place i.insn (Ok op)
    → (after : Types) × (o : Rule)
    × OperationApplies w m.max_stack op Flow (types_of_frame w.classes (typings.unset (top s).method) (kinds s) (top s)) after o
