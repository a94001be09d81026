-- Where control goes after an operation (JCVM 2.2, section 7.5).
use Rattle.std.specs.Prelude.{◌≡◌, ℕ, ◌<◌, Bool, true, false, Ok}
use Rattle.jc_base.specs.declared.record.MethodRec.{MethodRec}
use Rattle.jc_base.specs.World.{Linked}
use Rattle.jc_decode.specs.declared.insn.Insn.{Insn}
use Rattle.jc_decode.specs.Listing.{falls, jumps}
use Rattle.jc_ops.specs.declared.operation.Branch.TheVariants as branches
use Rattle.jc_ops.specs.declared.operation.Operation.{Operation}
use Rattle.jc_ops.specs.declared.operation.Operation.TheVariants as ops
use Rattle.jc_ops.specs.Resolve.{Resolves}

-- whether the instruction after may come next
abbrev pub falls_from : Operation → Bool
falls_from (ops.Branch branches.Always) = false
falls_from (ops.Switch width) = false
falls_from (ops.Return result) = false
falls_from ops.Throw = false
falls_from op = true

-- whether the instruction names places to go to
abbrev pub jumps_from : Operation → Bool
jumps_from (ops.Branch b) = true
jumps_from (ops.Switch width) = true
jumps_from op = false

-- whether the method ends here, or is left for a handler
abbrev pub ends_at : Operation → Bool
ends_at (ops.Return result) = true
ends_at ops.Throw = true
ends_at op = false

-- an operation falls and jumps as its instruction does in the listing of a method
pub record GoesAlike (op : Operation) (opcode : ℕ) : Type 0 where
  pub falls_alike : falls_from op ≡ falls opcode
  pub jumps_alike : jumps_from op ≡ jumps opcode

abbrev pub OperationsGoAlike : Linked → Type 0
OperationsGoAlike w =
    (m : MethodRec) (place : ℕ) (i : Insn) (op : Operation)
    → i.op < 256
    → Resolves w m place i (Ok op)
    → GoesAlike op i.op
