-- The frames of a run are a chain of calls from its entry.
use Rattle.std.specs.Prelude.{◌≡◌, ℕ, ◌<◌, List, [], ◌∷◌, length, map, Ok, ⊤}
use Rattle.jc_base.specs.declared.record.MethodRec.{MethodRec}
use Rattle.jc_base.specs.World.{Linked}
use Rattle.jc_decode.specs.declared.insn.Placed.{Placed}
use Rattle.jc_ops.specs.declared.operation.Operation.{Operation}
use Rattle.jc_ops.specs.Resolve.{Resolves}
use Rattle.vm_store.specs.declared.cell.Cell.{Cell}
use Rattle.vm_store.specs.Cells.{tagged}
use Rattle.vm_store.specs.State.{State, top, frame_limit}
use Rattle.vm_step.specs.declared.ending.Plain.TheVariants.{TooDeep}
use Rattle.vm_step.specs.declared.ending.Ending.TheVariants.{Plain}
use Rattle.vm_step.specs.Act.{calls}
use Rattle.vm_step.specs.Arguments.{Argument}
use Rattle.vm_step.specs.Performed.{act}
use Rattle.vm_step.specs.Raising.{Outcome, running, ended}
use Rattle.vm_step.specs.Start.{Starts}
use Rattle.vm_step.specs.Step.{Fetches}
use Rattle.vm_step.specs.Run.{Runs}
use Rattle.law_sound.specs.Frames.{Typings}
use Rattle.law_sound.specs.State.{IsTypedState}
use Rattle.law_sound.specs.Soundness.{AreTypings}
use Rattle.law_chains.specs.Calls.{Calls}

-- from a typed state the method on top runs no other method than one that it calls
abbrev pub OnlyCalledMethodsRun : Linked → Type 0
OnlyCalledMethodsRun w =
    (typings : Typings) (s y : State Cell) (m : MethodRec) (i : Placed) (op : Operation) (method count : ℕ)
    → AreTypings w typings
    → IsTypedState w typings s
    → Fetches w s m i
    → Resolves w m i.place i.insn (Ok op)
    → act tagged w i.insn op s ≡ calls method count y
    → Calls w (top s).method method

-- the methods of the frames, that of the frame on top first
abbrev pub methods_on : {A : Type 0} → State A → List ℕ
methods_on s = map (λ f. f.method) s.frames

-- methods each of which the one after it calls; the last is the entry
pub data IsStacked (w : Linked) (entry : ℕ) : List ℕ → Type 0 where
  entry_alone : IsStacked w entry (entry ∷ [])
  called_on : {m n : ℕ} {ms : List ℕ} → Calls w m n → IsStacked w entry (m ∷ ms) → IsStacked w entry (n ∷ m ∷ ms)

-- where there are any
abbrev pub AreStacked : Linked → ℕ → List ℕ → Type 0
AreStacked w entry [] = ⊤
AreStacked w entry (m ∷ ms) = IsStacked w entry (m ∷ ms)

-- more methods than there may be frames, each called by the one after it
pub record IsTooLong (w : Linked) (entry : ℕ) : Type 0 where
  pub methods : List ℕ
  pub stacked : IsStacked w entry methods
  pub long : frame_limit < length methods

-- the frames are so stacked; and a run is too deep only where such methods can be too many
abbrev pub KeepsToCalls : Linked → ℕ → Outcome Cell → Type 0
KeepsToCalls w entry (running s) = AreStacked w entry (methods_on s)
KeepsToCalls w entry (ended (Plain TooDeep) s) = IsTooLong w entry
KeepsToCalls w entry (ended ending s) = ⊤

-- in every state of every run of an entry
abbrev pub RunsKeepToCalls : Linked → Type 0
RunsKeepToCalls w =
    (typings : Typings) (entry : ℕ) (args : List Argument) (s : State Cell) (n : ℕ) (o : Outcome Cell)
    → AreTypings w typings
    → Starts tagged w entry args s
    → Runs tagged w n s o
    → KeepsToCalls w entry o
