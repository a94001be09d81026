-- A method begins with as many cells as it has parameters (JCVM 2.2, section 3.5).
use Rattle.std.specs.Prelude.{◌≡◌, ℕ, List, [], length, None, Ok, slice_get}
use Rattle.jc_base.specs.declared.record.MethodRec.{MethodRec}
use Rattle.jc_base.specs.World.{Linked}
use Rattle.jc_decode.specs.declared.insn.Insn.{Insn}
use Rattle.jc_decode.specs.declared.insn.Placed.{Placed}
use Rattle.jc_ops.specs.declared.operation.Callee.{Callee}
use Rattle.jc_ops.specs.declared.operation.Operation.{Operation}
use Rattle.jc_ops.specs.declared.operation.Operation.TheVariants.{Call}
use Rattle.jc_ops.specs.Resolve.{Resolves}
use Rattle.vm_store.specs.declared.cell.Cell.{Cell}
use Rattle.vm_store.specs.Cells.{tagged}
use Rattle.vm_store.specs.State.{State, arguments, top}
use Rattle.vm_step.specs.Act.{calls}
use Rattle.vm_step.specs.Arguments.{Argument}
use Rattle.vm_step.specs.Methods.{of_method}
use Rattle.vm_step.specs.Performed.{act}
use Rattle.vm_step.specs.Start.{cells_handed, parameters, start_fault}
use Rattle.vm_step.specs.Step.{Fetches}
use Rattle.law_sound.specs.Frames.{Typings}
use Rattle.law_sound.specs.State.{IsTypedState}
use Rattle.law_sound.specs.Soundness.{AreTypings}

-- how many words of arguments the method of a number has, with its receiver
abbrev pub nargs_of : Linked → ℕ → ℕ
nargs_of w n = of_method 0 (λ m. m.nargs) (slice_get w.methods n)

-- no other operation than a call calls a method
abbrev pub OnlyCallsCall : Linked → Type 0
OnlyCallsCall w =
    (i : Insn) (op : Operation) (s y : State Cell) (method count : ℕ)
    → act tagged w i op s ≡ calls method count y
    → (callee : Callee) × (op ≡ Call callee)

-- a call from a typed state hands its method all arguments
abbrev pub CallsHandAll : Linked → Type 0
CallsHandAll w =
    (typings : Typings) (s y : State Cell) (m : MethodRec) (i : Placed) (op : Operation) (method count : ℕ)
    → AreTypings w typings
    → IsTypedState w typings s
    → Fetches w s m i
    → Resolves w m i.place i.insn (Ok op)
    → act tagged w i.insn op s ≡ calls method count y
    → length (arguments count (top y).stack) ≡ nargs_of w method

-- and so does the start of a run
abbrev pub StartsHandAll : Linked → Type 0
StartsHandAll w =
    (entry : ℕ) (args : List Argument)
    → start_fault w entry args ≡ None
    → length (cells_handed tagged (length w.arrays) args (of_method [] parameters (slice_get w.methods entry))) ≡ nargs_of w entry
