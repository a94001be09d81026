-- An operation falls and jumps as its instruction does, whatever its opcode.
use Rattle.std.proofs.Common.{◌≡◌, ℕ, ◌≤◌, true, false, inl, inr, length, refl, sym, ap, ◌∙◌, arith}
use Rattle.std.specs.Prelude.{IsTrue, Ok}
use Rattle.std.specs.Prelude.{Result}
use Rattle.std.proofs.lemmas.Bool.Decides.{nat_tests}
use Rattle.std.proofs.lemmas.Bool.{cases_lt}
use Rattle.std.proofs.lemmas.List.{get_or_past}
use Rattle.jc_base.specs.declared.record.MethodRec.{MethodRec}
use Rattle.jc_base.specs.World.{Linked}
use Rattle.jc_decode.specs.declared.insn.Insn.{Insn}
use Rattle.jc_decode.specs.Listing.{falls, jumps}
use Rattle.jc_ops.specs.declared.operation.Operation.{Operation}
use Rattle.jc_ops.specs.declared.operation.Operation.TheVariants as ops
use Rattle.jc_ops.specs.declared.operation.Constant.TheVariants as constants
use Rattle.jc_ops.specs.Row.{table, row_at, unused, by_sort, by_width, by_kind}
use Rattle.jc_ops.specs.Row.{first_four, by_register, literals, binaries, orders_all, branching}
use Rattle.jc_ops.specs.Resolve.{Resolves}
use Rattle.jc_ops.specs.Resolve.{resolved}
use Rattle.jc_ops.specs.Next.{falls_from, jumps_from}
use Rattle.jc_ops.proofs.Going.{operations-go-alike}
use Rattle.jc_ops.proofs.Rows.{length-table}

-- past the table nothing is an instruction
past-row : (op : ℕ) → 256 ≤ op → row_at op ≡ unused
unfolding row_at
past-row op h = get_or_past table op unused (omega (arith, h, length-table))

past-falls : (op : ℕ) → 256 ≤ op → falls op ≡ true
past-falls op h = grind (arith, nat_tests)

past-operation : (w : Linked) (m : MethodRec) (place : ℕ) (i : Insn) (op : Operation) → 256 ≤ i.op → Resolves w m place i (Ok op)
    → op ≡ ops.Constant constants.Nothing
unfolding unused
past-operation w m place i op h r = grind (arith, past-row)

pub goes-on : (w : Linked) (m : MethodRec) (place : ℕ) (i : Insn) (op : Operation) → Resolves w m place i (Ok op) → falls_from op ≡ true
    → IsTrue (falls i.op)
goes-on w m place i op r h = grind (arith, cases_lt, operations-go-alike, past-falls)

pub jumps-on : (w : Linked) (m : MethodRec) (place : ℕ) (i : Insn) (op : Operation) → Resolves w m place i (Ok op) → jumps_from op ≡ true
    → jumps i.op ≡ true
jumps-on w m place i op r h = elim (cases_lt i.op 256) [
  | inl small ↦ sym (operations-go-alike w m place i op small r).jumps_alike ∙ h
  | inr large ↦ let is = past-operation w m place i op large r in let no : false ≡ true = sym (ap jumps_from is) ∙ h in absurd (cc)
]
