-- The form of an instruction by its opcode: what of it is emitted anew keeps to the operands that its opcode allows.
use Rattle.std.proofs.Common.{◌≡◌, ◌<◌, ◌-◌, ℕ, Bool, true, Result, Ok, Err, refl, sym, ap, ◌∙◌, subst}
use Rattle.std.specs.Prelude.{map, replicate, not, ◌&&◌}
use Rattle.std.specs.List.{range_with_len}
use Rattle.std.proofs.lemmas.Bool.{and_parts}
use Rattle.jc_base.specs.declared.record.MethodRec.{MethodRec}
use Rattle.jc_base.specs.World.{Linked}
use Rattle.jc_decode.specs.declared.insn.Insn.{Insn}
use Rattle.jc_decode.specs.declared.insn.CodeEnd.{CodeEnd}
use Rattle.jc_decode.specs.declared.layout.Layout.{Layout}
use Rattle.jc_decode.specs.Layout.{layout_of, opcode}
use Rattle.jc_decode.specs.Cases.{is_switch}
use Rattle.jc_decode.specs.Forms.{is_wide_jump, wide}
use Rattle.jc_decode.specs.Listing.{jumps, is_branch}
use Rattle.jc_decode.specs.Encoding.{Allows, AllowsBy, IsAllowed}
use Rattle.jc_decode.proofs.Passed.{passed-at}
use Rattle.jc_ops.specs.declared.operation.Operation.{Operation}
use Rattle.jc_ops.specs.Row.{row_at}
use Rattle.jc_ops.specs.Resolve.{resolved}
use Rattle.xf_emission.proofs.RowByRow.{Kind, branching_kind, switching, increasing, reading, writing}
use Rattle.xf_emission.proofs.RowByRow.{other_kind, op_kind, kinds, kind_at, kind-of}
use Rattle.xf_emission.specs.Mnemonics.{from_read, from_write}
use Rattle.jc_decode.proofs.Formed.{is_absent, is_byte, first_byte, has_byte, absent-one, byte-one}

-- ---- by opcode

-- what holds of an opcode whose row has a kind
abbrev pub suits_kind : ℕ → Kind → Bool
suits_kind op branching_kind = is_branch op && is_wide_jump (wide op)
suits_kind op switching = is_switch op
suits_kind op increasing = first_byte (layout_of op) && not (jumps op)
suits_kind op reading = has_byte (layout_of op) && (has_byte (layout_of (op - from_read)) && not (jumps (op - from_read)))
suits_kind op writing = has_byte (layout_of op) && (has_byte (layout_of (op - from_write)) && not (jumps (op - from_write)))
suits_kind op other_kind = true

abbrev suits : ℕ → Bool
suits op = suits_kind op (kind_at op)

suits-all : map suits (range_with_len 0 256) ≡ replicate 256 true
unfolding kind_at kinds layout_of opcode
suits-all = refl

pub suits-op : (w : Linked) (m : MethodRec) (place : ℕ) (i : Insn) (op : Operation) → i.op < 256 → resolved w m place i (row_at i.op) ≡ Ok op
    → suits_kind i.op (op_kind op) ≡ true
suits-op w m place i op lt e = ap (suits_kind i.op) (kind-of w m place i op lt e) ∙ passed-at suits suits-all i.op lt

-- ---- operands that are emitted

-- another instruction whose only operand is a byte
pub other-opcode : (i : Insn) (op : ℕ) → has_byte (layout_of i.op) ≡ true → has_byte (layout_of op) ≡ true → IsAllowed i
    → IsAllowed (record i { op = op })
other-opcode i op e f a = by (layout_of i.op) (layout_of op) e f a
  where
    by : (l k : Result Layout CodeEnd) → has_byte l ≡ true → has_byte k ≡ true → AllowsBy i l → AllowsBy (record i { op = op }) k
    by (Ok l) (Ok k) e f a =
        let el = and_parts (is_byte l.x) (is_absent l.y && is_absent l.z) e in
        let en = and_parts (is_absent l.y) (is_absent l.z) el.1 in
        let fl = and_parts (is_byte k.x) (is_absent k.y && is_absent k.z) f in
        let fn = and_parts (is_absent k.y) (is_absent k.z) fl.1 in (
          subst (λ o. Allows o i.x) (byte-one l.x el.0 ∙ sym (byte-one k.x fl.0)) a.0,
          subst (λ o. Allows o i.y) (absent-one l.y en.0 ∙ sym (absent-one k.y fn.0)) a.1,
          subst (λ o. Allows o i.z) (absent-one l.z en.1 ∙ sym (absent-one k.z fn.1)) a.2,
        )
    by (Ok l) (Err g) e f a = absurd (cc)
    by (Err g) k e f a = absurd (cc)
