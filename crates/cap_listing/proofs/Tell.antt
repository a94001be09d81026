-- The numbers of an instruction tell its bytes.
use Rattle.std.proofs.Common.{◌≡◌, ◌<◌, ◌≤◌, ◌+◌, ◌*◌, ◌-◌, ℕ, zero, suc, Bool, true, false, Result}
use Rattle.std.proofs.Common.{Ok, Err, List, ◌∷◌, ◌++◌, length, take, drop, map, replicate, get_or, refl, sym, ap, subst, ◌∙◌, arith}
use Rattle.std.proofs.Common.{append_assoc}
use Rattle.std.specs.Prelude.{ℤ, pos, ◌-ℤ◌}
use Rattle.std.specs.List.{range_with_len}
use Rattle.std.specs.Result.{result_unwrap_or}
use Rattle.std.proofs.Math.IntN.{+ℤ-neg_ℤ_cancel, +ℤ_comm}
use Rattle.std.proofs.lemmas.List.{get_or-replicate, take_all}
use Rattle.std.proofs.lemmas.Bool.{false≢true}
use Rattle.std.proofs.lemmas.List.FromFn.{get_or-map-range_with_len}
use Rattle.jc_decode.specs.declared.layout.Operand.{Operand}
use Rattle.jc_decode.specs.declared.layout.Operand.TheVariants.{S2, S4}
use Rattle.jc_decode.specs.declared.layout.Cases.{Cases}
use Rattle.jc_decode.specs.declared.layout.Cases.TheVariants.{Range, Pairs}
use Rattle.jc_decode.specs.declared.layout.Cases.TheVariants.{Absent as NoCases}
use Rattle.jc_decode.specs.declared.layout.Layout.{Layout}
use Rattle.jc_decode.specs.declared.insn.CodeEnd.{CodeEnd}
use Rattle.jc_decode.specs.declared.insn.Insn.{Insn}
use Rattle.jc_decode.specs.declared.insn.Case.{Case}
use Rattle.jc_decode.specs.Layout.{layout_of, opcode, operand_width, total_width}
use Rattle.cap_bytes.specs.Bytes.{AreBytes}
use Rattle.jc_decode.specs.Decoding.{operand_at, pair_width, FitsLayout}
use Rattle.jc_decode.specs.Cases.{cases, cases_in, range_case, pair_case, offset_at}
use Rattle.jc_decode.specs.Listing.{jumps, target}
use Rattle.jc_decode.specs.Encoding.{operand_bytes, head_bytes, table_bytes, encoding, encoding_by}
use Rattle.jc_decode.proofs.Decoded.{Begins-decoded, table_end-ok}
use Rattle.jc_decode.proofs.Ranges.{FitsOperand-read, FitsLayout-decoded, op-fits}
use Rattle.jc_decode.proofs.ReadBack.{FitsTable, fits-table}
use Rattle.jc_decode.proofs.Tables.{cases-by}
use Rattle.jc_decode.proofs.Windows.{number_at-reached}
use Rattle.jc_decode.proofs.OwnBytes.{operand-bytes, take-more, encoding-own}
use Rattle.cap_listing.specs.Numbers.{shown_operand, shown_first, shown_cases, numbers_by, numbers_of, read_first, kept_bytes, table_of}
use Rattle.cap_listing.specs.Numbers.{first_number, after_operand, later_bytes, block_by, block_of}
use Rattle.cap_listing.specs.Reading.{IsOne}
use Rattle.cap_listing.proofs.Kept.{kept-same, after-shown, shown-bytes}

-- the distance is read off the target
distance : (place : ℕ) (x : ℤ) → target place x -ℤ pos place ≡ x
distance place x = ap (λ (z : ℤ). z -ℤ pos place) (+ℤ_comm (pos place) x) ∙ +ℤ-neg_ℤ_cancel x (pos place)

first-read : (j : Bool) (place : ℕ) (x : ℤ) → read_first j place (shown_first j place x) ≡ x
first-read x place x2 = grind (arith)

-- ---- tables

-- an operand of two or four signed bytes is read wherever the bytes reach
value_at : Operand → List ℕ → ℕ → ℤ
value_at o xs p = result_unwrap_or (operand_at o xs p) (pos 0)

there-two : (xs : List ℕ) (p : ℕ) → p + 2 ≤ length xs → operand_at S2 xs p ≡ Ok (value_at S2 xs p)
unfolding value_at
there-two xs p h = rw (number_at-reached 2 p xs h) refl

there-four : (xs : List ℕ) (p : ℕ) → p + 4 ≤ length xs → operand_at S4 xs p ≡ Ok (value_at S4 xs p)
unfolding value_at
there-four xs p h = rw (number_at-reached 4 p xs h) refl

value-bytes : (o : Operand) (xs : List ℕ) (p : ℕ) → AreBytes xs → operand_at o xs p ≡ Ok (value_at o xs p)
    → kept_bytes o (value_at o xs p) ≡ take (operand_width o) (drop p xs)
value-bytes o xs p are is =
    ap (operand_bytes o) (kept-same o (value_at o xs p) (FitsOperand-read o xs p (value_at o xs p) are is))
    ∙ operand-bytes o xs p (value_at o xs p) are is

-- the bytes of an offset, which is shown as its target
offset-bytes : (xs : List ℕ) (place p : ℕ) → AreBytes xs → p + 2 ≤ length xs
    → kept_bytes S2 (target place (offset_at xs p) -ℤ pos place) ≡ take 2 (drop p xs)
unfolding value_at
offset-bytes xs place p are h = grind (arith, value-bytes S2 xs p are (there-two xs p h))

abbrev ranges : List ℕ → ℕ → ℕ → ℤ → ℕ → ℕ → List ℕ
ranges xs place t low n a = table_of Range place (shown_cases Range place (map (range_case xs t low) (range_with_len a n)))

range-bytes : (xs : List ℕ) (place t : ℕ) (low : ℤ) (n a : ℕ) → AreBytes xs → t + 2 * (a + n) ≤ length xs
    → ranges xs place t low n a ≡ take (2 * n) (drop (t + 2 * a) xs)
range-bytes xs place t low zero a are h = refl
range-bytes xs place t low (suc n) a are h =
    let one = offset-bytes xs place (t + 2 * a) are (omega arith) in
    let rest = range-bytes xs place t low n (a + 1) are (omega arith) in
    let size : 2 + 2 * n ≡ 2 * suc n = omega arith in
    let next : t + 2 * (a + 1) ≡ t + 2 * a + 2 = omega arith in
    ap (λ (l : List ℕ). l ++ ranges xs place t low n (a + 1)) one
    ∙ ap (λ (l : List ℕ). take 2 (drop (t + 2 * a) xs) ++ l) (rest ∙ ap (λ (k : ℕ). take (2 * n) (drop k xs)) next)
    ∙ sym (take-more xs (t + 2 * a) 2 (2 * n)) ∙ ap (λ (m : ℕ). take m (drop (t + 2 * a) xs)) size

abbrev pairs : Operand → List ℕ → ℕ → ℕ → ℕ → ℕ → List ℕ
pairs key xs place t n a = table_of (Pairs key) place (shown_cases (Pairs key) place (map (pair_case xs t key) (range_with_len a n)))

pairs-two : (xs : List ℕ) (place t n a : ℕ) → AreBytes xs → t + 4 * (a + n) ≤ length xs
    → pairs S2 xs place t n a ≡ take (4 * n) (drop (t + 4 * a) xs)
unfolding value_at
pairs-two xs place t zero a are h = refl
pairs-two xs place t (suc n) a are h =
    let one = value-bytes S2 xs (t + 4 * a) are (there-two xs (t + 4 * a) (omega arith)) in
    let two = offset-bytes xs place (t + 4 * a + 2) are (omega arith) in
    let rest = pairs-two xs place t n (a + 1) are (omega arith) in
    let size : 2 + (2 + 4 * n) ≡ 4 * suc n = omega arith in
    let next : t + 4 * (a + 1) ≡ t + 4 * a + 2 + 2 = omega arith in
    ap (λ (l : List ℕ). l ++ (kept_bytes S2 (target place (offset_at xs (t + 4 * a + 2)) -ℤ pos place) ++ pairs S2 xs place t n (a + 1))) one
    ∙ ap (λ (l : List ℕ). take 2 (drop (t + 4 * a) xs) ++ (l ++ pairs S2 xs place t n (a + 1))) two
    ∙ ap (λ (l : List ℕ). take 2 (drop (t + 4 * a) xs) ++ (take 2 (drop (t + 4 * a + 2) xs) ++ l))
    (rest ∙ ap (λ (k : ℕ). take (4 * n) (drop k xs)) next)
    ∙ sym (take-more xs (t + 4 * a) 2 (2 + 4 * n)
    ∙ ap (λ (l : List ℕ). take 2 (drop (t + 4 * a) xs) ++ l) (take-more xs (t + 4 * a + 2) 2 (4 * n)))
    ∙ ap (λ (m : ℕ). take m (drop (t + 4 * a) xs)) size

pairs-four : (xs : List ℕ) (place t n a : ℕ) → AreBytes xs → t + 6 * (a + n) ≤ length xs
    → pairs S4 xs place t n a ≡ take (6 * n) (drop (t + 6 * a) xs)
unfolding value_at
pairs-four xs place t zero a are h = refl
pairs-four xs place t (suc n) a are h =
    let one = value-bytes S4 xs (t + 6 * a) are (there-four xs (t + 6 * a) (omega arith)) in
    let two = offset-bytes xs place (t + 6 * a + 4) are (omega arith) in
    let rest = pairs-four xs place t n (a + 1) are (omega arith) in
    let size : 4 + (2 + 6 * n) ≡ 6 * suc n = omega arith in
    let next : t + 6 * (a + 1) ≡ t + 6 * a + 4 + 2 = omega arith in
    ap (λ (l : List ℕ). l ++ (kept_bytes S2 (target place (offset_at xs (t + 6 * a + 4)) -ℤ pos place) ++ pairs S4 xs place t n (a + 1))) one
    ∙ ap (λ (l : List ℕ). take 4 (drop (t + 6 * a) xs) ++ (l ++ pairs S4 xs place t n (a + 1))) two
    ∙ ap (λ (l : List ℕ). take 4 (drop (t + 6 * a) xs) ++ (take 2 (drop (t + 6 * a + 4) xs) ++ l))
    (rest ∙ ap (λ (k : ℕ). take (6 * n) (drop k xs)) next)
    ∙ sym (take-more xs (t + 6 * a) 4 (2 + 6 * n)
    ∙ ap (λ (l : List ℕ). take 4 (drop (t + 6 * a) xs) ++ l) (take-more xs (t + 6 * a + 4) 2 (6 * n)))
    ∙ ap (λ (m : ℕ). take m (drop (t + 6 * a) xs)) size

-- each lookup switch has keys of two or four bytes
is_wide : Operand → Bool
is_wide S2 = true
is_wide S4 = true
is_wide _ = false

is_wide_table : Cases → Bool
is_wide_table NoCases = true
is_wide_table Range = true
is_wide_table (Pairs key) = is_wide key

has_wide_keys : Result Layout CodeEnd → Bool
has_wide_keys (Err e) = true
has_wide_keys (Ok l) = is_wide_table l.cases

all_wide : map (λ op. has_wide_keys (layout_of op)) (range_with_len 0 256) ≡ replicate 256 true
unfolding has_wide_keys is_wide_table is_wide layout_of opcode
all_wide = refl

wide-key : (op : ℕ) (l : Layout) (key : Operand) → op < 256 → layout_of op ≡ Ok l → l.cases ≡ Pairs key → is_wide key ≡ true
unfolding has_wide_keys is_wide_table
wide-key op l key h is_layout is_cases =
    ap is_wide_table (sym is_cases) ∙ ap has_wide_keys (sym is_layout)
    ∙ sym (get_or-map-range_with_len (λ k. has_wide_keys (layout_of k)) 0 256 op op true h (omega arith))
    ∙ ap (λ (t : List Bool). get_or t op true) all_wide ∙ get_or-replicate 256 op true true h

pairs-bytes : (key : Operand) (xs : List ℕ) (place t n : ℕ) → is_wide key ≡ true → AreBytes xs → t + pair_width key * n ≤ length xs
    → pairs key xs place t n 0 ≡ take (pair_width key * n) (drop t xs)
unfolding is_wide
pairs-bytes x xs place t n e are h = grind (arith, pairs-two, pairs-four, false≢true)

-- the numbers of a table tell its bytes
table-told : (place : ℕ) (xs : List ℕ) (i : Insn) (l : Layout) (k : Cases) (m : ℕ) → AreBytes xs → i.op < 256 → layout_of i.op ≡ Ok l
    → l.cases ≡ k
    → FitsTable k i.y i.z m → 1 + total_width l + m ≤ length xs
    → table_of k place (shown_cases k place (cases_in k xs (1 + total_width l) i)) ≡ take m (drop (1 + total_width l) xs)
table-told place xs i l v m are small is_layout is_cases size reach = grind (arith, range-bytes, pairs-bytes, wide-key)

-- ---- the whole instruction

told-by : (place : ℕ) (i : Insn) (cs : List Case) (l : Layout) → FitsLayout i (Ok l)
    → block_by (Ok l) place i.op (numbers_by (Ok l) place i cs) ≡ head_bytes l i ++ table_of l.cases place (shown_cases l.cases place cs)
told-by place i cs l fits =
    let j = jumps i.op in
    let shown = shown_first j place i.x in
    let table = shown_cases l.cases place cs in
    let third = shown_operand l.z i.z ++ table in
    let second = shown_operand l.y i.y ++ third in
    let bytes = table_of l.cases place table in
    let x = shown-bytes l.x (read_first j place) shown i.x second (first-read j place i.x) fits.0 in
    let y = shown-bytes l.y (λ n. n) i.y i.y third refl fits.1 in
    let z = shown-bytes l.z (λ n. n) i.z i.z table refl fits.2 in
    let after_x = after-shown l.x shown second in
    let after_y = after-shown l.y i.y third in
    let after_z = after-shown l.z i.z table in
    ap (λ (a : List ℕ). i.op ∷ (a ++ later_bytes l place (after_operand l.x (shown_operand l.x shown ++ second)))) x
    ∙ ap (λ (ns : List ℤ). i.op ∷ (operand_bytes l.x i.x ++ later_bytes l place ns)) after_x
    ∙ ap
    (λ (a : List ℕ).
    i.op ∷ (operand_bytes l.x
    i.x ++ (a ++ (kept_bytes l.z (first_number (after_operand l.y second)) ++ table_of l.cases place (after_operand l.z (after_operand l.y second))))))
    y
    ∙ ap
    (λ (ns : List ℤ).
    i.op ∷ (operand_bytes l.x i.x ++ (operand_bytes l.y i.y ++ (kept_bytes l.z (first_number ns) ++ table_of l.cases place (after_operand l.z ns)))))
    after_y
    ∙ ap (λ (a : List ℕ). i.op ∷ (operand_bytes l.x i.x ++ (operand_bytes l.y i.y ++ (a ++ table_of l.cases place (after_operand l.z third))))) z
    ∙ ap (λ (ns : List ℤ). i.op ∷ (operand_bytes l.x i.x ++ (operand_bytes l.y i.y ++ (operand_bytes l.z i.z ++ table_of l.cases place ns)))) after_z
    ∙ ap (λ (a : List ℕ). i.op ∷ a)
    (ap (λ (a : List ℕ). operand_bytes l.x i.x ++ a) (sym (append_assoc (operand_bytes l.y i.y) (operand_bytes l.z i.z) bytes))
    ∙ sym (append_assoc (operand_bytes l.x i.x) (operand_bytes l.y i.y ++ operand_bytes l.z i.z) bytes))

-- the bytes of the table, as they are encoded
table-own : (l : Layout) (k : Cases) (xs : List ℕ) (i : Insn) → l.cases ≡ k → FitsTable k i.y i.z (i.len - (1 + total_width l))
    → take (i.len - (1 + total_width l)) (drop (1 + total_width l) xs) ≡ table_bytes l xs 0 i
table-own l y xs i is size = grind (arith)

pub numbers-tell : (place : ℕ) (xs : List ℕ) (i : Insn) → IsOne xs i → block_of place i.op (numbers_of place i (cases xs 0 i)) ≡ xs
unfolding encoding
numbers-tell place xs i one =
    let b = Begins-decoded xs 0 i one.decodes in
    let l = b.layout in
    let fits = subst (FitsLayout i) b.is_layout (FitsLayout-decoded xs 0 i one.are one.decodes) in
    let ends = b.ends ∙ ap (λ (n : ℕ). Ok n) zero-first in
    let inside = table_end-ok l l.cases xs (1 + total_width l) i.y i.z i.len ends b.reaches in
    let m = i.len - (1 + total_width l) in
    let whole : i.len ≡ 1 + total_width l + m = omega (arith, inside.0) in
    let size = fits-table l.cases l.z xs (1 + total_width l) m i.y i.z (ends ∙ ap (λ (n : ℕ). Ok n) whole) in
    let table =
    ap (λ (cs : List Case). table_of l.cases place (shown_cases l.cases place cs)) (cases-by xs 0 i l l.cases b.is_layout refl)
    ∙ table-told place xs i l l.cases m one.are (op-fits xs 0 i one.are one.decodes) b.is_layout refl size (omega (arith, whole, one.whole))
    ∙ table-own l l.cases xs i refl size in
    ap (λ (r : Result Layout CodeEnd). block_by r place i.op (numbers_by r place i (cases xs 0 i))) b.is_layout
    ∙ told-by place i (cases xs 0 i) l fits
    ∙ ap (λ (t : List ℕ). head_bytes l i ++ t) table
    ∙ sym (ap (λ (r : Result Layout CodeEnd). encoding_by r xs 0 i) b.is_layout)
    ∙ encoding-own xs 0 i one.are one.decodes
    ∙ take_all i.len xs (omega (arith, one.whole))
  where
    zero-first : 0 + i.len ≡ i.len
    zero-first = omega arith
