-- What a machine needs besides what it keeps of its states: room on a stack, and, where it tests nothing, code that was verified.
use Rattle.std.specs.Prelude.{◌≡◌, ℕ, ◌≤◌, ◌<◌, ℤ, Bool, true, false, List, length, IsSome, Ok, Err}
use Rattle.jc_base.specs.declared.record.MethodRec.{MethodRec}
use Rattle.jc_base.specs.World.{Linked}
use Rattle.jc_decode.specs.declared.insn.Placed.{Placed}
use Rattle.jc_ops.specs.declared.fault.RuleFault.{RuleFault}
use Rattle.jc_ops.specs.declared.operation.Operation.{Operation}
use Rattle.jc_ops.specs.Resolve.{Resolves}
use Rattle.vm_store.specs.Cells.{Cells}
use Rattle.vm_store.specs.State.{State, IsRunning, top, without_top}
use Rattle.vm_step.specs.declared.ending.Value.{Value}
use Rattle.vm_step.specs.Act.{jumps, gives}
use Rattle.vm_step.specs.Methods.{code_at, instruction_at}
use Rattle.vm_step.specs.Performed.{act}
use Rattle.vm_step.specs.Settled.{is_target_place}
use Rattle.vm_step.specs.Step.{Fetches}
use Rattle.vm_run.specs.declared.known.Known.TheVariants.{Verified}
use Rattle.vm_run.specs.Known.{CanResume}

-- room for the reference of an object that is caught; a machine that tests does so after a result of two cells was pushed
pub record HasRoomToCatch (room : ℕ) (checks : Bool) : Type 0 where
  pub one : 0 < room
  pub result : checks ≡ true → 257 ≤ room

-- what holds of the step of verified code, which nothing tests: an instruction is there, names what it takes, and leads to
-- instructions
pub record IsVerified {A : Type 0} (room : ℕ) (k : Cells A) (w : Linked) (s : State A) : Type 0 where
  pub place : IsSome (instruction_at (code_at w (top s).method) (top s).place)
  pub resolves :
      (m : MethodRec) (i : Placed) (fault : RuleFault)
      → Fetches w s m i
      → ¬ (Resolves w m i.place i.insn (Err fault))
  pub lands :
      (m : MethodRec) (i : Placed) (op : Operation) (to : ℤ) (z : State A)
      → Fetches w s m i
      → Resolves w m i.place i.insn (Ok op)
      → act k w i.insn op s ≡ jumps to z
      → is_target_place (code_at w (top s).method) to ≡ true
  pub resumes :
      (m : MethodRec) (i : Placed) (op : Operation) (value : Value) (cells : List A)
      → Fetches w s m i
      → Resolves w m i.place i.insn (Ok op)
      → act k w i.insn op s ≡ gives value cells
      → IsRunning (without_top s)
      → CanResume room w Verified (length cells) (without_top s)

abbrev pub AreVerified : {A : Type 0} → ℕ → Cells A → (State A → Type 0) → Linked → Type 0
AreVerified {A} room k keeps w = k.checks ≡ false → (s : State A) → keeps s → IsRunning s → IsVerified room k w s
