-- The code's table of readings is that of the layouts, opcode by opcode, and each says what the layout is.
use Rattle.std.proofs.Common.{◌≡◌, ◌∙◌, ℕ, ◌<◌, List, Bool, true, false, refl, sym, ap, subst, arith, get_or}
use Rattle.std.specs.List.{range_with_len}
use Rattle.std.specs.Prelude.{map, ◌&&◌}
use Rattle.std.proofs.lemmas.Bool.{and_parts}
use Rattle.std.proofs.lemmas.List.FromFn.{get_or-map-range_with_len}
use Rattle.jc_decode.specs.declared.reading.TheConstants.{READINGS}
use Rattle.jc_decode.specs.declared.reading.Reading.{Reading}
use Rattle.jc_decode.specs.declared.layout.Operand.{Operand}
use Rattle.jc_decode.specs.declared.layout.Operand.TheVariants as operands
use Rattle.jc_decode.specs.declared.layout.Cases.{Cases}
use Rattle.jc_decode.specs.declared.layout.Cases.TheVariants as tables
use Rattle.jc_decode.specs.Layout.{layout_of, opcode, one}
use Rattle.jc_decode.specs.Untested.{known_layout}
use Rattle.jc_decode.specs.Reading.{is_absent, has_no_cases, reading_of, reading, Reads}

abbrev reading_at : ℕ → Reading
reading_at op = reading (known_layout (layout_of op))

READINGS-is : READINGS ≡ map reading_at (range_with_len 0 256)
unfolding layout_of opcode
READINGS-is = refl

READINGS-at : (op : ℕ) (d : Reading) → op < 256 → get_or READINGS op d ≡ reading_at op
READINGS-at op d h =
    ap (λ (t : List Reading). get_or t op d) READINGS-is ∙ get_or-map-range_with_len reading_at 0 256 op op d h (omega arith)

absent-is : (o : Operand) → is_absent o ≡ true → o ≡ operands.Absent
absent-is x h = grind (arith)

no_cases-is : (c : Cases) → has_no_cases c ≡ true → c ≡ tables.Absent
no_cases-is x h = grind (arith)

one-is : (x y z : Operand) (c : Cases) → y ≡ operands.Absent → z ≡ operands.Absent → c ≡ tables.Absent
    → record { x = x; y = y; z = z; cases = c } ≡ one x
one-is x y z c hy hz hc = rw (hy, hz, hc) refl

reads-one : (x : Operand) → Reads (reading_of x) (one x)
reads-one operands.Absent = refl
reads-one operands.U1 = refl
reads-one operands.U2 = refl
reads-one operands.S1 = refl
reads-one operands.S2 = refl
reads-one operands.S4 = tt
reads-one operands.DupWords = tt
reads-one operands.SwapWords = tt
reads-one operands.ArrayType = tt
reads-one operands.TestedType = tt

reads-by : (x y z : Operand) (c : Cases) → Reads (reading (record { x = x; y = y; z = z; cases = c })) (record { x = x; y = y; z = z; cases = c })
reads-by x y z c = by_test (is_absent y && (is_absent z && has_no_cases c)) refl
  where
    by_test : (b : Bool) → (is_absent y && (is_absent z && has_no_cases c)) ≡ b
        → Reads (reading (record { x = x; y = y; z = z; cases = c })) (record { x = x; y = y; z = z; cases = c })
    by_test false e = rw e tt
    by_test true e =
        let p = and_parts (is_absent y) (is_absent z && has_no_cases c) e in
        let q = and_parts (is_absent z) (has_no_cases c) p.1 in
        let same = one-is x y z c (absent-is y p.0) (absent-is z q.0) (no_cases-is c q.1) in
        rw e (subst (Reads (reading_of x)) (sym same) (reads-one x))

-- what is read from the table says what the layout of the opcode is
pub reads-at : (op : ℕ) (d : Reading) → op < 256 → Reads (get_or READINGS op d) (known_layout (layout_of op))
reads-at op d h =
    let l = known_layout (layout_of op) in
    subst (λ (r : Reading). Reads r l) (sym (READINGS-at op d h)) (reads-by l.x l.y l.z l.cases)
