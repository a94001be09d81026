-- Jumps in their forms, and switches with another default.
use Rattle.std.proofs.Common.{◌≡◌, ◌∙◌, ◌<◌, ◌+◌, ◌-◌, ℕ, Bool, true, false, cond, Result, Ok, Err, refl, sym, arith}
use Rattle.std.specs.Prelude.{ℤ, pos, FitsSigned, not, ◌&&◌, ◌||◌, ◌==◌, map, replicate}
use Rattle.std.specs.Int.{w16}
use Rattle.std.specs.List.{range_with_len}
use Rattle.std.proofs.lemmas.Bool.Decides.{nat_tests}
use Rattle.std.proofs.lemmas.Int.{ints}
use Rattle.jc_decode.specs.declared.layout.Operand.{Operand}
use Rattle.jc_decode.specs.declared.layout.Operand.TheVariants.{Absent, U1, U2, S1, S2, S4, DupWords, SwapWords, ArrayType, TestedType}
use Rattle.jc_decode.specs.declared.layout.Layout.{Layout}
use Rattle.jc_decode.specs.declared.insn.Insn.{Insn}
use Rattle.jc_decode.specs.declared.insn.CodeEnd.{CodeEnd}
use Rattle.std.proofs.lemmas.Bool.{eqb-true, and_parts, not-true}
use Rattle.jc_decode.specs.Layout.{layout_of, opcode, operand_width, total_width}
use Rattle.jc_decode.specs.Listing.{jumps, is_branch}
use Rattle.jc_decode.specs.Cases.{is_switch}
use Rattle.jc_decode.specs.Encoding.{Allows, AllowsBy, IsAllowed}
use Rattle.jc_decode.specs.Forms.{essence, is_near, is_wide_jump, jump_to, length_of, bytes_by, wide}
use Rattle.jc_decode.specs.Symbols.{jump}
use Rattle.jc_decode.proofs.Passed.{passed-at, or-rest}
use Rattle.jc_decode.proofs.Formed.{is_absent, absent-allows}

-- a signed operand of one byte or of two
abbrev is_offset : Bool → Operand → Bool
is_offset two S1 = not two
is_offset two S2 = two
is_offset two Absent = false
is_offset two U1 = false
is_offset two U2 = false
is_offset two S4 = false
is_offset two DupWords = false
is_offset two SwapWords = false
is_offset two ArrayType = false
is_offset two TestedType = false

abbrev has_offset : Bool → Result Layout CodeEnd → Bool
has_offset two (Ok l) = is_offset two l.x && (is_absent l.y && is_absent l.z)
has_offset two (Err e) = false

-- opcode by opcode, of the wide form: what both forms are
abbrev is_jump : Bool → ℕ → Bool
is_jump two op =
    not (is_wide_jump op)
    || (has_offset two (layout_of (cond two op (op - 56)))
    && (is_branch (cond two op (op - 56)) && (not (is_switch (cond two op (op - 56))) && (wide (cond two op (op - 56)) == op))))

is_jump-wide : map (is_jump true) (range_with_len 0 256) ≡ replicate 256 true
unfolding layout_of opcode
is_jump-wide = refl

is_jump-short : map (is_jump false) (range_with_len 0 256) ≡ replicate 256 true
unfolding layout_of opcode
is_jump-short = refl

is_jump-at : (two : Bool) (op : ℕ) → is_wide_jump op ≡ true → is_jump two op ≡ true
is_jump-at true op h = passed-at (is_jump true) is_jump-wide op (small op h)
  where
    small : (op : ℕ) → is_wide_jump op ≡ true → op < 256
    small op h = grind (arith, nat_tests)
is_jump-at false op h = passed-at (is_jump false) is_jump-short op (small op h)
  where
    small : (op : ℕ) → is_wide_jump op ≡ true → op < 256
    small op h = grind (arith, nat_tests)

record IsJump (two : Bool) (op form : ℕ) : Type 0 where
  pub layout : has_offset two (layout_of form) ≡ true
  pub branch : is_branch form ≡ true
  pub only : is_switch form ≡ false
  pub wide_is : wide form ≡ op

IsJump-form : (two : Bool) (op : ℕ) → is_wide_jump op ≡ true → IsJump two op (cond two op (op - 56))
IsJump-form two op h =
    grind (arith, or-rest (is_wide_jump op) _ (is_jump-at two op h) h, cond two op (op - 56), and_parts, not-true, eqb-true)

offset-allows : (two : Bool) (o : Operand) (d : ℤ) → is_offset two o ≡ true → (two ≡ false → is_near d ≡ true) → FitsSigned w16 d → Allows o d
offset-allows two y d h near fits = grind (arith, ints)

pub jump-allowed : (op : ℕ) (two : Bool) (d : ℤ) → is_wide_jump op ≡ true → (two ≡ false → is_near d ≡ true) → FitsSigned w16 d
    → IsAllowed (jump_to op two d)
jump-allowed op two d h near fits = by_layout (layout_of (cond two op (op - 56))) (IsJump-form two op h).layout
  where
    by_layout : (r : Result Layout CodeEnd) → has_offset two r ≡ true → AllowsBy (jump_to op two d) r
    by_layout (Err e) g = absurd (cc)
    by_layout (Ok l) g =
        let p = and_parts (is_offset two l.x) _ g in
        let q = and_parts (is_absent l.y) _ p.1 in
        (offset-allows two l.x d p.0 near fits, absent-allows l.y q.0, absent-allows l.z q.1)

offset-width : (two : Bool) (l : Layout) → has_offset two (Ok l) ≡ true → 1 + total_width l ≡ cond two 3 2
offset-width two l h =
    let p = and_parts (is_offset two l.x) _ h in
    let q = and_parts (is_absent l.y) _ p.1 in
    let x = offset-bytes two l.x p.0 in
    let y = absent-bytes l.y q.0 in
    let z = absent-bytes l.z q.1 in
    omega (arith, x, y, z)
  where
    absent-bytes : (o : Operand) → is_absent o ≡ true → operand_width o ≡ 0
    absent-bytes Absent h = refl
    absent-bytes U1 h = absurd (cc)
    absent-bytes U2 h = absurd (cc)
    absent-bytes S1 h = absurd (cc)
    absent-bytes S2 h = absurd (cc)
    absent-bytes S4 h = absurd (cc)
    absent-bytes DupWords h = absurd (cc)
    absent-bytes SwapWords h = absurd (cc)
    absent-bytes ArrayType h = absurd (cc)
    absent-bytes TestedType h = absurd (cc)

    offset-bytes : (two : Bool) (o : Operand) → is_offset two o ≡ true → 1 + operand_width o ≡ cond two 3 2
    offset-bytes two y h = grind (arith)

pub jump-long : (op : ℕ) (two : Bool) (d : ℤ) → is_wide_jump op ≡ true → length_of (jump_to op two d) ≡ cond two 3 2
jump-long op two d h =
    let form = IsJump-form two op h in
    rw form.only (by_layout (layout_of (cond two op (op - 56))) form.layout)
  where
    by_layout : (r : Result Layout CodeEnd) → has_offset two r ≡ true → bytes_by r ≡ cond two 3 2
    by_layout (Err e) g = absurd (cc)
    by_layout (Ok l) g = offset-width two l g

pub jump-branch : (op : ℕ) (two : Bool) → is_wide_jump op ≡ true → is_branch (cond two op (op - 56)) ≡ true
jump-branch op two h = (IsJump-form two op h).branch

pub jump-only : (op : ℕ) (two : Bool) → is_wide_jump op ≡ true → is_switch (cond two op (op - 56)) ≡ false
jump-only op two h = (IsJump-form two op h).only

essence-branch : (i : Insn) (op : ℕ) → is_branch i.op ≡ true → wide i.op ≡ op
    → essence i ≡ record { op = op; x = pos 0; y = i.y; z = i.z; len = 0 }
essence-branch i op b w = let j : jumps i.op ≡ true = rw b refl in rw (j, w) refl

pub jump-same : (op : ℕ) (two : Bool) (d : ℤ) → is_wide_jump op ≡ true → essence (jump_to op two d) ≡ essence (jump op)
jump-same op two d h =
    let form = IsJump-form two op h in
    let long = IsJump-form true op h in
    essence-branch (jump_to op two d) op form.branch form.wide_is ∙ sym (essence-branch (jump op) op long.branch long.wide_is)
