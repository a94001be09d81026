-- A switch with another default.
use Rattle.std.proofs.Common.{◌≡◌, ◌∙◌, ◌≤◌, ◌+◌, ℕ, Bool, true, false, Result, Ok, Err, List, [], length, refl, ap, subst, arith}
use Rattle.std.specs.Prelude.{ℤ, unsigned_abs, FitsSigned, not, ◌||◌, map, replicate}
use Rattle.std.specs.Int.{w16}
use Rattle.std.specs.List.{range_with_len}
use Rattle.std.proofs.Math.Nat.{add-mul}
use Rattle.std.proofs.lemmas.List.FromFn.{length-map-range_with_len}
use Rattle.jc_decode.specs.declared.layout.Operand.{Operand}
use Rattle.jc_decode.specs.declared.layout.Operand.TheVariants.{Absent, U1, U2, S1, S2, S4, DupWords, SwapWords, ArrayType, TestedType}
use Rattle.jc_decode.specs.declared.layout.Cases.{Cases}
use Rattle.jc_decode.specs.declared.layout.Cases.TheVariants.{Range, Pairs}
use Rattle.jc_decode.specs.declared.layout.Cases.TheVariants.{Absent as NoCases}
use Rattle.jc_decode.specs.declared.layout.Layout.{Layout}
use Rattle.jc_decode.specs.declared.insn.Insn.{Insn}
use Rattle.jc_decode.specs.declared.insn.CodeEnd.{CodeEnd}
use Rattle.jc_decode.specs.Layout.{layout_of, opcode, operand_width, total_width}
use Rattle.cap_bytes.specs.Bytes.{AreBytes}
use Rattle.jc_decode.specs.Decoding.{decoded, range_count}
use Rattle.jc_decode.specs.Cases.{cases, cases_by, cases_in, range_case, pair_case, is_switch, with_default, HasTable}
use Rattle.jc_decode.specs.Encoding.{Allows, AllowsBy, IsAllowed}
use Rattle.jc_decode.specs.Forms.{essence}
use Rattle.jc_decode.proofs.Decoded.{ok-same}
use Rattle.jc_decode.proofs.Passed.{passed-at, or-rest}
use Rattle.jc_decode.proofs.Ranges.{IsAllowed-decoded, op-fits}
use Rattle.jc_decode.proofs.Tables.{cases-by, range_table, pairs_table}

-- the default of a switch is an offset of two bytes, opcode by opcode
abbrev is_two : Operand → Bool
is_two S2 = true
is_two S1 = false
is_two Absent = false
is_two U1 = false
is_two U2 = false
is_two S4 = false
is_two DupWords = false
is_two SwapWords = false
is_two ArrayType = false
is_two TestedType = false

abbrev has_default : Result Layout CodeEnd → Bool
has_default (Ok l) = is_two l.x
has_default (Err e) = false

abbrev leads : ℕ → Bool
leads op = not (is_switch op) || has_default (layout_of op)

leads-all : map leads (range_with_len 0 256) ≡ replicate 256 true
unfolding layout_of opcode
leads-all = refl

two-allows : (o : Operand) (d : ℤ) → is_two o ≡ true → FitsSigned w16 d → Allows o d
two-allows x d h fits = grind (arith)

either : (a : Bool) → (a || true) ≡ true
either x = grind (arith)

pub default-same : (i : Insn) (d : ℤ) → is_switch i.op ≡ true → essence (record i { x = d }) ≡ essence i
default-same i d h = grind (arith)

moved : (r : Result Insn CodeEnd) (i : Insn) (d : ℤ) → with_default i.x r ≡ Ok i → with_default d r ≡ Ok (record i { x = d })
moved x i d h = grind (arith, ok-same)

pub default-table : (xs : List ℕ) (at : ℕ) (i : Insn) (d : ℤ) → HasTable xs at i → HasTable xs at (record i { x = d })
default-table xs at i d h switch = moved (decoded xs at) i d (h switch)

kept : (k i : Insn) (d : ℤ) → record k { x = i.x } ≡ i → record k { x = d } ≡ record i { x = d }
kept k i d h = ap (λ (m : Insn). record m { x = d }) h

pub default-allowed : (xs : List ℕ) (at : ℕ) (i : Insn) (d : ℤ) → AreBytes xs → is_switch i.op ≡ true → HasTable xs at i → FitsSigned w16 d
    → IsAllowed (record i { x = d })
default-allowed xs at i d bytes switch has fits = by_decoded (decoded xs at) refl (has switch)
  where
    by_layout : (k : Insn) (r : Result Layout CodeEnd) → has_default r ≡ true → AllowsBy k r → AllowsBy (record k { x = d }) r
    by_layout k (Err e) g a = absurd a
    by_layout k (Ok l) g a = (two-allows l.x d g fits, a.1, a.2)

    by_decoded : (r : Result Insn CodeEnd) → decoded xs at ≡ r → with_default i.x r ≡ Ok i → IsAllowed (record i { x = d })
    by_decoded (Err e) is h = absurd (cc)
    by_decoded (Ok k) is h =
        let same = ok-same (record k { x = i.x }) i _ refl h in
        let op : k.op ≡ i.op = ap (λ (m : Insn). m.op) same in
        let two : is_switch k.op ≡ true = ap is_switch op ∙ switch in
        let form = or-rest (is_switch k.op) _ (passed-at leads leads-all k.op (op-fits xs at k bytes is)) two in
        subst IsAllowed (kept k i d same) (by_layout k (layout_of k.op) form (IsAllowed-decoded xs at k bytes is))

pub default-cases : (xs : List ℕ) (at : ℕ) (i : Insn) (d : ℤ) → cases xs at (record i { x = d }) ≡ cases xs at i
unfolding cases
default-cases xs at i d = by_layout (layout_of i.op)
  where
    by_cases : (c : Cases) (t : ℕ) → cases_in c xs t (record i { x = d }) ≡ cases_in c xs t i
    by_cases NoCases t = refl
    by_cases Range t = refl
    by_cases (Pairs key) t = refl

    by_layout : (r : Result Layout CodeEnd) → cases_by r xs at (record i { x = d }) ≡ cases_by r xs at i
    by_layout x = grind (arith)

pub no_cases : (xs : List ℕ) (at : ℕ) (i : Insn) (e : CodeEnd) → layout_of i.op ≡ Err e → cases xs at i ≡ []
unfolding cases
no_cases xs at i e is = rw is refl

pub few-cases : (xs : List ℕ) (at : ℕ) (i : Insn) → HasTable xs at i → length (cases xs at i) ≤ length xs
few-cases xs at i has = by_layout (layout_of i.op) refl
  where
    by_cases : (l : Layout) (k : Cases) → layout_of i.op ≡ Ok l → l.cases ≡ k → length (cases xs at i) ≤ length xs
    by_cases l NoCases is_layout is = omega (arith, ap length (cases-by xs at i l NoCases is_layout is))
    by_cases l Range is_layout is =
        let t = at + 1 + total_width l in
        let inside = range_table xs at i l has is_layout is in
        omega (arith, inside.1, ap length (cases-by xs at i l Range is_layout is), length-map-range_with_len (range_case xs t i.y) 0 (range_count i.y i.z))
    by_cases l (Pairs key) is_layout is =
        let t = at + 1 + total_width l in
        let inside = pairs_table xs at i l key has is_layout is in
        omega (
          arith,
          inside,
          ap length (cases-by xs at i l (Pairs key) is_layout is),
          length-map-range_with_len (pair_case xs t key) 0 (unsigned_abs i.y),
          add-mul (operand_width key) 2 (unsigned_abs i.y),
        )

    by_layout : (r : Result Layout CodeEnd) → layout_of i.op ≡ r → length (cases xs at i) ≤ length xs
    by_layout (Ok l) is = by_cases l l.cases is refl
    by_layout (Err e) is = omega (arith, ap length (no_cases xs at i e is))
