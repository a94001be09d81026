-- The entry of the constant pool that an instruction names (JCVM 2.2, section 7.5).
use Rattle.std.specs.Prelude.{◌≡◌, ℕ, ◌==◌, ◌||◌, if◌then◌else◌, Option, Some, None, IfSome, Result, Err}
use Rattle.jc_base.specs.declared.record.MethodRec.{MethodRec}
use Rattle.jc_base.specs.World.{Linked, member_at}
use Rattle.jc_decode.specs.declared.insn.Insn.{Insn}
use Rattle.jc_ops.specs.declared.fault.RuleFault.{RuleFault}
use Rattle.jc_ops.specs.declared.fault.RuleFault.TheVariants.{BadMember}
use Rattle.jc_ops.specs.declared.operation.Operation.{Operation}
use Rattle.jc_ops.specs.declared.row.Invocation.TheVariants as invocations
use Rattle.jc_ops.specs.declared.row.Row.{Row}
use Rattle.jc_ops.specs.declared.row.Row.TheVariants as rows
use Rattle.jc_ops.specs.Row.{row_at}
use Rattle.jc_ops.specs.Resolve.{byte_of, short_of, Resolves}

-- by the row of its opcode; beside the number of an array of primitives the index is unread
abbrev pub entry_of : Insn → Row → Option ℕ
entry_of i (rows.StaticRead k) = Some (short_of i.x)
entry_of i (rows.StaticWrite k) = Some (short_of i.x)
entry_of i (rows.FieldRead k h) = Some (short_of i.x)
entry_of i (rows.FieldWrite k h) = Some (short_of i.x)
entry_of i (rows.Call invocations.Interface) = Some (short_of i.y)
entry_of i (rows.Call by) = Some (short_of i.x)
entry_of i rows.New = Some (short_of i.x)
entry_of i rows.NewReferences = Some (short_of i.x)
entry_of i (rows.TypeTest test) = if byte_of i.x == 0 || byte_of i.x == 14 then Some (short_of i.y) else None
entry_of i _ = None

-- the number of the entry that the instruction names, where it names one
abbrev pub entry_named : Insn → Option ℕ
entry_named i = entry_of i (row_at i.op)

-- what is resolved rests on the entry that is named alone, and on the result of the method's signature
abbrev pub RestsOnEntry : Linked → Type 0
RestsOnEntry w =
    (m n : MethodRec) (place : ℕ) (i : Insn) (r : Result Operation RuleFault)
    → IfSome (entry_named i) (λ entry. member_at w m.package entry ≡ member_at w n.package entry)
    → m.sig.result ≡ n.sig.result
    → Resolves w m place i r
    → Resolves w n place i r

-- where an instruction names no member that it takes, the fault has the number of the entry that it names
abbrev pub FaultNamesEntry : Linked → Type 0
FaultNamesEntry w =
    (m : MethodRec) (place : ℕ) (i : Insn) (entry : ℕ)
    → Resolves w m place i (Err (BadMember entry))
    → entry_named i ≡ Some entry
