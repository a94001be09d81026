-- One step of a machine (JCVM 2.2, sections 3.5 and 7.5): what the instruction at the place of the frame on top does, or how the run
-- ends there.
use Rattle.std.specs.Prelude.{◌≡◌, ◌+◌, true, Some, None, Ok, Err, slice_get}
use Rattle.jc_base.specs.declared.record.MethodRec.{MethodRec}
use Rattle.jc_base.specs.World.{Linked}
use Rattle.jc_decode.specs.declared.insn.Placed.{Placed}
use Rattle.jc_ops.specs.declared.fault.RuleFault.{RuleFault}
use Rattle.jc_ops.specs.declared.operation.Operation.{Operation}
use Rattle.jc_ops.specs.Resolve.{Resolves}
use Rattle.vm_store.specs.Cells.{Cells}
use Rattle.vm_store.specs.State.{State, IsRunning, top}
use Rattle.vm_step.specs.declared.ending.Fault.TheVariants.{TypeFault, JumpFault}
use Rattle.vm_step.specs.declared.ending.Ending.TheVariants.{Faulted}
use Rattle.vm_step.specs.Methods.{code_at, instruction_at}
use Rattle.vm_step.specs.Performed.{act}
use Rattle.vm_step.specs.Tests.{fault_before}
use Rattle.vm_step.specs.Raising.{Outcome, ends}
use Rattle.vm_step.specs.Settled.{unless_fault, settled}

-- the outcome of an operation: of the tests before, of what it does, and of the tests after
abbrev pub performed : {A : Type 0} → Cells A → Linked → Placed → Operation → State A → Outcome A
performed k w i op s =
    unless_fault s (fault_before k w op s) (settled k w (i.place + i.insn.len) s (act k w i.insn op s))

-- what stands at the place of the frame on top
pub record Fetches {A : Type 0} (w : Linked) (s : State A) (m : MethodRec) (i : Placed) : Type 0 where
  pub runs : IsRunning s
  pub method : slice_get w.methods (top s).method ≡ Some m
  pub instruction : instruction_at (code_at w (top s).method) (top s).place ≡ Some i

-- a step of a state in which a method runs: a machine of tagged cells ends where no instruction is, or where one names nothing that it
-- takes; every machine performs the operation of an instruction that names what it takes
pub data Steps {A : Type 0} (k : Cells A) (w : Linked) (s : State A) : Outcome A → Type 0 where
  misplaced :
      k.checks ≡ true
      → IsRunning s
      → instruction_at (code_at w (top s).method) (top s).place ≡ None
      → Steps k w s (ends (Faulted JumpFault) s)
  unresolved :
      {m : MethodRec} {i : Placed}
      → k.checks ≡ true
      → Fetches w s m i
      → (fault : RuleFault)
      → Resolves w m i.place i.insn (Err fault)
      → Steps k w s (ends (Faulted TypeFault) s)
  performs :
      {m : MethodRec} {i : Placed} {o : Outcome A}
      → Fetches w s m i
      → (op : Operation)
      → Resolves w m i.place i.insn (Ok op)
      → o ≡ performed k w i op s
      → Steps k w s o
