-- What is called is a call.
use Rattle.std.proofs.Common.{◌≡◌, ℕ, [], subst, arith}
use Rattle.std.specs.Prelude.{⊤}
use Rattle.jc_base.specs.World.{Linked}
use Rattle.jc_decode.specs.declared.insn.Insn.{Insn}
use Rattle.jc_ops.specs.declared.operation.Callee.{Callee}
use Rattle.jc_ops.specs.declared.operation.Operation.{Operation}
use Rattle.jc_ops.specs.declared.operation.Operation.TheVariants as ops
use Rattle.vm_store.specs.declared.cell.Cell.{Cell}
use Rattle.vm_store.specs.Cells.{tagged}
use Rattle.vm_store.specs.State.{State}
use Rattle.vm_step.specs.declared.ending.Exception.TheVariants as exceptions
use Rattle.vm_step.specs.Act.{Act, calls}
use Rattle.vm_step.specs.Performed.{act}

-- it does not call
abbrev IsStill : Act Cell → Type 0
IsStill (calls method count z) = ⊥
IsStill _ = ⊤

never : (a : Act Cell) (method count : ℕ) (y : State Cell) → a ≡ calls method count y → IsStill a → ⊥
never a method count y e s = subst IsStill e s

pub called :
    (w : Linked) (i : Insn) (op : Operation) (z : State Cell) (method count : ℕ) (y : State Cell)
    → act tagged w i op z ≡ calls method count y
    → (c : Callee) × (op ≡ ops.Call c)
called w i op z m n y e = grind (arith, never)
