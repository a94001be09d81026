-- An instruction whose register has another number keeps to the operands that its opcode allows.
use Rattle.std.proofs.Common.{◌≡◌, ◌<◌, ℕ, Bool, true, false, Result, Ok, Err, refl, sym, ap, ◌∙◌, subst, arith}
use Rattle.std.specs.Prelude.{pos, map, replicate, not, ◌&&◌, ◌||◌, ◌==◌, ◌+◌, ◌-◌, ◌/◌, ◌%◌, if◌then◌else◌, ℤ, IsTrue}
use Rattle.std.specs.List.{range_with_len}
use Rattle.std.proofs.lemmas.Bool.{and_parts, eqb-true}
use Rattle.jc_decode.specs.declared.insn.Insn.{Insn}
use Rattle.jc_decode.specs.declared.insn.CodeEnd.{CodeEnd}
use Rattle.jc_decode.specs.declared.layout.Layout.{Layout}
use Rattle.jc_decode.specs.declared.layout.Operand.{Operand}
use Rattle.jc_decode.specs.Encoding.{Allows, AllowsBy, IsAllowed}
use Rattle.jc_decode.specs.Forms.{is_load_n, is_store_n, is_wide_jump, wide, with_operand}
use Rattle.jc_decode.specs.Layout.{layout_of, opcode}
use Rattle.jc_decode.specs.Listing.{is_branch, jumps}
use Rattle.jc_decode.proofs.Passed.{passed-at, or-rest}
use Rattle.jc_ops.specs.Resolve.{byte_of}
use Rattle.law_renumbered.specs.Instruction.{uses_register, renumbered_instruction}
use Rattle.jc_decode.proofs.Formed.{is_absent, first_byte, absent-one, byte-allows, other-register}

-- ---- by opcode

abbrev no_rest : Result Layout CodeEnd → Bool
no_rest (Ok l) = is_absent l.y && is_absent l.z
no_rest (Err e) = false

-- the opcode of the form with an operand
abbrev with_operand_op : ℕ → ℕ
with_operand_op op = if is_load_n op then 21 + (op - 24) / 4 else if is_store_n op then 40 + (op - 43) / 4 else op

-- what holds of an opcode with a register: the form with an operand has a byte first, and what comes after it is the same in both
abbrev rest_stays : ℕ → Bool
rest_stays op =
    if is_load_n op || is_store_n op
    then no_rest (layout_of op) && no_rest (layout_of (with_operand_op op))
    else with_operand_op op == op

abbrev has_operand : ℕ → Bool
has_operand op = first_byte (layout_of (with_operand_op op)) && (not (jumps (with_operand_op op)) && rest_stays op)

abbrev suits_register : ℕ → Bool
suits_register op = not (uses_register op) || has_operand op

abbrev suits_branch : ℕ → Bool
suits_branch op = not (is_branch op) || is_wide_jump (wide op)

registers-all : map suits_register (range_with_len 0 256) ≡ replicate 256 true
unfolding layout_of opcode
registers-all = refl

register-suits : (op : ℕ) → op < 256 → uses_register op ≡ true → has_operand op ≡ true
register-suits op lt e = or-rest (uses_register op) (has_operand op) (passed-at suits_register registers-all op lt) e

pub branch-wide : (op : ℕ) → op < 256 → is_branch op ≡ true → is_wide_jump (wide op) ≡ true
branch-wide op lt e = grind (arith, or-rest, passed-at)

-- ---- operands

other-absent : (o p : Operand) (v : ℤ) → is_absent o ≡ true → is_absent p ≡ true → Allows o v → Allows p v
other-absent o p v e f a = subst (λ q. Allows q v) (absent-one o e ∙ sym (absent-one p f)) a

-- another opcode and another first operand
other-both : (i : Insn) (op r : ℕ) → no_rest (layout_of i.op) ≡ true → no_rest (layout_of op) ≡ true → first_byte (layout_of op) ≡ true → r < 256
    → IsAllowed i → IsAllowed (record i { op = op; x = pos r })
other-both i op r e f g lt a = by (layout_of i.op) (layout_of op) e f g a
  where
    by : (l k : Result Layout CodeEnd) → no_rest l ≡ true → no_rest k ≡ true → first_byte k ≡ true → AllowsBy i l
        → AllowsBy (record i { op = op; x = pos r }) k
    by (Ok l) (Ok k) e f g a =
        let first = and_parts (is_absent l.y) (is_absent l.z) e in
        let other = and_parts (is_absent k.y) (is_absent k.z) f in
        (byte-allows k.x r g lt, other-absent l.y k.y i.y first.0 other.0 a.1, other-absent l.z k.z i.z first.1 other.1 a.2)
    by (Ok l) (Err t) e f g a = absurd (cc)
    by (Err s) k e f g a = absurd (cc)

-- ---- an instruction with another register

-- the form with an operand, with this operand
with-first : (i : Insn) (x : ℤ) → (record (with_operand i) { x = x }) ≡ record i { op = with_operand_op i.op; x = x }
with-first i x = by (is_load_n i.op) (is_store_n i.op)
  where
    by : (a b : Bool)
        → (record (if a then record i { op = 21 + (i.op - 24) / 4; x = pos ((i.op - 24) % 4) }
        else if b then record i { op = 40 + (i.op - 43) / 4; x = pos ((i.op - 43) % 4) } else i) { x = x })
        ≡ record i { op = if a then 21 + (i.op - 24) / 4 else if b then 40 + (i.op - 43) / 4 else i.op; x = x }
    by true b = refl
    by false true = refl
    by false false = refl

module _ (i : Insn) (r : ℕ) (small : i.op < 256) (lt : r < 256) (named : uses_register i.op ≡ true) where
  parts : (first_byte (layout_of (with_operand_op i.op)) ≡ true) × ((not (jumps (with_operand_op i.op)) && rest_stays i.op) ≡ true)
  parts =
      and_parts (first_byte (layout_of (with_operand_op i.op))) (not (jumps (with_operand_op i.op)) && rest_stays i.op)
      (register-suits i.op small named)

  rest : (not (jumps (with_operand_op i.op)) ≡ true) × (rest_stays i.op ≡ true)
  rest = and_parts (not (jumps (with_operand_op i.op))) (rest_stays i.op) parts.1

  named-allowed : IsAllowed i → IsAllowed (record i { op = with_operand_op i.op; x = pos r })
  named-allowed a = by (is_load_n i.op || is_store_n i.op) rest.1
    where
      by : (b : Bool) → (if b then no_rest (layout_of i.op) && no_rest (layout_of (with_operand_op i.op)) else with_operand_op i.op == i.op) ≡ true
          → IsAllowed (record i { op = with_operand_op i.op; x = pos r })
      by true e =
          let both = and_parts (no_rest (layout_of i.op)) (no_rest (layout_of (with_operand_op i.op))) e in
          other-both i (with_operand_op i.op) r both.0 both.1 parts.0 lt a
      by false e =
          let same : with_operand_op i.op ≡ i.op = eqb-true (with_operand_op i.op) i.op e in
          subst (λ op. IsAllowed (record i { op = op; x = pos r })) (sym same)
          (other-register i r (subst (λ op. first_byte (layout_of op) ≡ true) same parts.0) lt a)

  named-plain : IsAllowed i → IsAllowed (record (with_operand i) { x = pos r }) × IsTrue (not (jumps (with_operand i).op))
  named-plain a = grind (arith, with-first, named-allowed, rest)

byte-small : (x : ℤ) → byte_of x < 256
byte-small x = omega arith

pub plain-suits : (i : Insn) (reg : ℕ → ℕ) → i.op < 256 → ((x : ℕ) → x < 256 → reg x < 256) → jumps i.op ≡ false → IsAllowed i
    → IsAllowed (renumbered_instruction reg i) × IsTrue (not (jumps (renumbered_instruction reg i).op))
plain-suits i reg small few none a = by (uses_register i.op) refl
  where
    r : ℕ
    r = reg (byte_of (with_operand i).x)

    by : (b : Bool) → uses_register i.op ≡ b
        → IsAllowed (if b then record (with_operand i) { x = pos r } else i)
        × IsTrue (not (jumps (if b then record (with_operand i) { x = pos r } else i).op))
    by true named = named-plain i r small (few (byte_of (with_operand i).x) (byte-small (with_operand i).x)) named a
    by false other = (a, ap not none)
