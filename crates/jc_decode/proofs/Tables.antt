-- The table of a switch that is decoded, and the cases in it.
use Rattle.std.proofs.Common.{subst, ◌≡◌, ◌≤◌, ◌<◌, ◌+◌, ◌*◌, ◌-◌, ℕ, zero, suc, Bool, true, false, cond, Some, None, Result, Ok, []}
use Rattle.std.proofs.Common.{Err, List, length, refl, sym, ap, ◌∙◌, arith, rules}
use Rattle.std.specs.Prelude.{◌-ℤ◌, FitsSigned, ℤ, ◌≤ℤ◌, unsigned_abs, int_lt, map, slice_get, IsTrue}
use Rattle.std.specs.List.{range_with_len}
use Rattle.std.proofs.lemmas.Int.{ints, to_z-of_z}
use Rattle.std.specs.Int.{w32, cast_signed, cast_unsigned}
use Rattle.std.proofs.lemmas.Option.{slice_get-map, slice_get_past}
use Rattle.std.proofs.lemmas.List.FromFn.{length-map-range_with_len}
use Rattle.jc_decode.specs.declared.layout.Operand.{Operand}
use Rattle.jc_decode.specs.declared.layout.Layout.{Layout}
use Rattle.jc_decode.specs.declared.layout.Cases.{Cases}
use Rattle.jc_decode.specs.declared.layout.Cases.TheVariants.{Absent as NoCases, Range, Pairs}
use Rattle.jc_decode.specs.declared.insn.CodeEnd.{CodeEnd}
use Rattle.jc_decode.specs.declared.insn.Insn.{Insn}
use Rattle.jc_decode.specs.Layout.{operand_width, total_width, layout_of}
use Rattle.jc_decode.specs.Decoding.{decoded, table_end, range_end, range_count, pairs_end, pair_width, bad_operand, within_bytes}
use Rattle.jc_decode.specs.Cases.{cases, cases_in, range_case, pair_case, is_switch, is_table, has_cases, with_default, HasTable, cases_by}
use Rattle.jc_decode.proofs.Decoded.{Begins-decoded, ok-same, range_end-ok, pairs_end-ok, table_end-ok}

-- the n-th of the numbers below k
slice_get-range : (a k n : ℕ) → n < k → slice_get (range_with_len a k) n ≡ Some (a + n)
slice_get-range a zero n h = absurd (omega arith)
slice_get-range a (suc k) zero h = ap Some (omega arith)
slice_get-range a (suc k) (suc n) h = slice_get-range (a + 1) k n (omega arith) ∙ ap Some (omega arith)

-- the n-th of what f gives of the numbers below k
pub slice_get-map-range : {X : Type 0} (f : ℕ → X) (k n : ℕ) → n < k → slice_get (map f (range_with_len 0 k)) n ≡ Some (f n)
slice_get-map-range f k n h = grind (arith, slice_get-map, slice_get-range)

pub slice_get-past-range : {X : Type 0} (f : ℕ → X) (k n : ℕ) → k ≤ n → slice_get (map f (range_with_len 0 k)) n ≡ None
slice_get-past-range f k n h = slice_get_past (map f (range_with_len 0 k)) n (omega (arith, length-map-range_with_len f 0 k))

-- the size of a number, and of a difference, that is passed
pub abs-passed : (y : ℤ) → FitsSigned w32 y → unsigned_abs (cast_signed w32 (cast_unsigned w32 y)) ≡ unsigned_abs y
abs-passed y fits = ap unsigned_abs (to_z-of_z w32 y fits)

pub abs_diff-passed : (y z : ℤ) → FitsSigned w32 y → FitsSigned w32 z
    → unsigned_abs (cast_signed w32 (cast_unsigned w32 z) -ℤ cast_signed w32 (cast_unsigned w32 y)) ≡ unsigned_abs (z -ℤ y)
abs_diff-passed y z fits_y fits_z = grind (arith, to_z-of_z)

-- an instruction that is decoded but for its default
record ButDefault (r : Result Insn CodeEnd) (i : Insn) : Type 0 where
  insn : Insn
  is_decoded : r ≡ Ok insn
  op : insn.op ≡ i.op
  y : insn.y ≡ i.y
  z : insn.z ≡ i.z
  len : insn.len ≡ i.len

ButDefault-with_default : (x : ℤ) (r : Result Insn CodeEnd) (i : Insn) → with_default x r ≡ Ok i → ButDefault r i
ButDefault-with_default x y i h = grind (arith, ok-same)

end-moved : (xs : List ℕ) (at : ℕ) (k l : Layout) (y y' z z' : ℤ) (m n : ℕ) → k ≡ l → y ≡ y' → z ≡ z' → m ≡ n
    → table_end k xs (at + 1 + total_width k) y z ≡ Ok (at + m) → table_end l xs (at + 1 + total_width l) y' z' ≡ Ok (at + n)
end-moved xs at k l y y' z z' m n e f g h t = rw (← e, ← f, ← g, ← h) t

-- the table of a switch ends where the switch does
pub HasTable-end : (xs : List ℕ) (at : ℕ) (i : Insn) (l : Layout) → HasTable xs at i → layout_of i.op ≡ Ok l → is_table l.cases ≡ true
    → (table_end l xs (at + 1 + total_width l) i.y i.z ≡ Ok (at + i.len)) × (at + 1 + total_width l ≤ length xs)
HasTable-end xs at i l h is_layout is_switch =
    let yes : IsTrue (has_cases (layout_of i.op)) = rw (is_layout, is_switch) (search rules) in
    let d = ButDefault-with_default i.x (decoded xs at) i (h yes) in
    let b = Begins-decoded xs at d.insn d.is_decoded in
    let same : b.layout ≡ l = ok-same _ _ (layout_of i.op) (ap layout_of (sym d.op) ∙ b.is_layout) is_layout in (
      end-moved xs at b.layout l d.insn.y i.y d.insn.z i.z d.insn.len i.len same d.y d.z d.len b.ends,
      subst (λ (k : Layout). at + 1 + total_width k ≤ length xs) same b.reaches,
    )

-- the table stands between the operands and the end
pub table_within : (xs : List ℕ) (at : ℕ) (i : Insn) (l : Layout) → HasTable xs at i → layout_of i.op ≡ Ok l → is_table l.cases ≡ true
    → (1 + total_width l ≤ i.len) × (at + i.len ≤ length xs)
table_within xs at i l h is_layout is_switch =
    let t = HasTable-end xs at i l h is_layout is_switch in
    let e = table_end-ok l l.cases xs (at + 1 + total_width l) i.y i.z (at + i.len) t.0 t.1 in
    (omega (arith, e.0), e.1)

-- low is not above high where there is a table of their numbers, and the table lies within the code
pub range_order : (bound : Operand) (xs : List ℕ) (table : ℕ) (low high : ℤ) (e : ℕ) → range_end bound xs table low high ≡ Ok e → low ≤ℤ high
range_order bound xs table low high e h = by_test (int_lt high low) refl h
  where
    by_test : (b : Bool) → int_lt high low ≡ b
        → cond b (Err (bad_operand xs (table - operand_width bound))) (within_bytes xs (table + 2 * range_count low high)) ≡ Ok e → low ≤ℤ high
    by_test true order h = absurd (cc)
    by_test false order h = grind (arith, ints)

pub range_table : (xs : List ℕ) (at : ℕ) (i : Insn) (l : Layout) → HasTable xs at i → layout_of i.op ≡ Ok l → l.cases ≡ Range
    → (i.y ≤ℤ i.z) × (at + 1 + total_width l + 2 * range_count i.y i.z ≤ length xs)
range_table xs at i l h is_layout is_range =
    let ends = HasTable-end xs at i l h is_layout (rw is_range refl) in
    let range : range_end l.z xs (at + 1 + total_width l) i.y i.z ≡ Ok (at + i.len) = rw is_range at ends.0 in
    let place = range_end-ok l.z xs (at + 1 + total_width l) i.y i.z (at + i.len) range in
    (range_order l.z xs _ i.y i.z _ range, omega (arith, place.0, place.1))

pub pairs_table : (xs : List ℕ) (at : ℕ) (i : Insn) (l : Layout) (key : Operand) → HasTable xs at i → layout_of i.op ≡ Ok l
    → l.cases ≡ Pairs key → at + 1 + total_width l + pair_width key * unsigned_abs i.y ≤ length xs
pairs_table xs at i l key h is_layout is_pairs =
    let ends = HasTable-end xs at i l h is_layout (rw is_pairs refl) in
    let pairs : pairs_end key xs (at + 1 + total_width l) (unsigned_abs i.y) ≡ Ok (at + i.len) = rw is_pairs at ends.0 in
    let place = pairs_end-ok key xs (at + 1 + total_width l) (unsigned_abs i.y) (at + i.len) pairs in
    omega (arith, place.0, place.1)

-- the cases of an instruction, by its layout
pub cases-by : (xs : List ℕ) (at : ℕ) (i : Insn) (l : Layout) (k : Cases) → layout_of i.op ≡ Ok l → l.cases ≡ k
    → cases xs at i ≡ cases_in k xs (at + 1 + total_width l) i
unfolding cases
cases-by xs at i l k is_layout is_cases = rw (is_layout, is_cases) refl

-- the n-th case of a table of the numbers from low to high
pub case-range : (xs : List ℕ) (at : ℕ) (i : Insn) (l : Layout) (table n : ℕ) → layout_of i.op ≡ Ok l → l.cases ≡ Range
    → table ≡ at + 1 + total_width l → n < range_count i.y i.z → Some (range_case xs table i.y n) ≡ slice_get (cases xs at i) n
case-range xs at i l table n is_layout is_range place h =
    rw (cases-by xs at i l Range is_layout is_range, ← place) (sym (slice_get-map-range (range_case xs table i.y) (range_count i.y i.z) n h))

pub case-past-range : (xs : List ℕ) (at : ℕ) (i : Insn) (l : Layout) (n : ℕ) → layout_of i.op ≡ Ok l → l.cases ≡ Range
    → range_count i.y i.z ≤ n → None ≡ slice_get (cases xs at i) n
case-past-range xs at i l n is_layout is_range h =
    rw (cases-by xs at i l Range is_layout is_range) (sym (slice_get-past-range _ (range_count i.y i.z) n h))

-- the n-th case of a table of pairs
pub case-pair : (xs : List ℕ) (at : ℕ) (i : Insn) (l : Layout) (key : Operand) (table n : ℕ) → layout_of i.op ≡ Ok l → l.cases ≡ Pairs key
    → table ≡ at + 1 + total_width l → n < unsigned_abs i.y → Some (pair_case xs table key n) ≡ slice_get (cases xs at i) n
case-pair xs at i l key table n is_layout is_pairs place h =
    rw (cases-by xs at i l (Pairs key) is_layout is_pairs, ← place) (sym (slice_get-map-range (pair_case xs table key) (unsigned_abs i.y) n h))

pub case-past-pairs : (xs : List ℕ) (at : ℕ) (i : Insn) (l : Layout) (key : Operand) (n : ℕ) → layout_of i.op ≡ Ok l → l.cases ≡ Pairs key
    → unsigned_abs i.y ≤ n → None ≡ slice_get (cases xs at i) n
case-past-pairs xs at i l key n is_layout is_pairs h =
    rw (cases-by xs at i l (Pairs key) is_layout is_pairs) (sym (slice_get-past-range _ (unsigned_abs i.y) n h))

-- what is no switch has no cases
pub no-cases : (xs : List ℕ) (at : ℕ) (i : Insn) → is_switch i.op ≡ false → cases xs at i ≡ []
unfolding cases
no-cases xs at i h = by_layout (layout_of i.op) h
  where
    by_cases : (k : Cases) → is_table k ≡ false → (table : ℕ) → cases_in k xs table i ≡ []
    by_cases NoCases h table = refl
    by_cases Range h table = absurd (cc)
    by_cases (Pairs key) h table = absurd (cc)

    by_layout : (r : Result Layout CodeEnd) → has_cases r ≡ false → cases_by r xs at i ≡ []
    by_layout (Ok l) h = by_cases l.cases h (at + 1 + total_width l)
    by_layout (Err e) h = refl
