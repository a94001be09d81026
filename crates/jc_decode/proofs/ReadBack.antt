-- The bytes of an instruction are decoded to it, wherever they stand.
use Rattle.std.proofs.Common.{◌≡◌, ◌<◌, ◌≤◌, ◌+◌, ◌*◌, ◌-◌, ◌^◌, ℕ, suc, Bool, true, false, cond, Some, Result, Ok, Err, List, rules}
use Rattle.std.proofs.Common.{[], ◌∷◌, ◌++◌, length, take, drop, refl, sym, ap, ◌∙◌, arith, append_assoc, length-append}
use Rattle.std.specs.Prelude.{ℤ, pos, int_lt, unsigned_abs, not}
use Rattle.std.specs.Result.{result_unwrap_or}
use Rattle.std.proofs.lemmas.Int.{to_z-of_z}
use Rattle.std.proofs.Math.Nat.{mul-le-mul_left, mul-suc, mod-eq_of_lt}
use Rattle.std.proofs.Math.Seq.{drop-append_seam}
use Rattle.std.proofs.lemmas.List.{get_or-drop, get_or-take, get_or-append-add, get_or_append_left, length-drop, length-take}
use Rattle.byteorder.specs.Endian.{big_number, big_bytes}
use Rattle.byteorder.specs.Numbers.{big_from-bytes, length-bytes_high_first}
use Rattle.cap_bytes.specs.Number.{number_at}
use Rattle.jc_decode.specs.declared.layout.Operand.{Operand}
use Rattle.jc_decode.specs.declared.layout.Operand.TheVariants.{Absent, S2}
use Rattle.jc_decode.specs.declared.layout.Cases.{Cases}
use Rattle.jc_decode.specs.declared.layout.Cases.TheVariants.{Range, Pairs}
use Rattle.jc_decode.specs.declared.layout.Cases.TheVariants.{Absent as NoCases}
use Rattle.jc_decode.specs.declared.layout.Layout.{Layout}
use Rattle.jc_decode.specs.declared.insn.CodeEnd.{CodeEnd}
use Rattle.jc_decode.specs.declared.insn.Insn.{Insn}
use Rattle.jc_decode.specs.Layout.{operand_width, total_width, layout_of}
use Rattle.jc_decode.specs.Decoding.{value, operand_number, operand_at, within_bytes, bad_operand, key_at}
use Rattle.jc_decode.specs.Decoding.{rises, pair_width, range_count, range_end, allows}
use Rattle.jc_decode.specs.Decoding.{pairs_end, end_of_cases, table_end, FitsOperand, Begins}
use Rattle.jc_decode.specs.Cases.{cases_in, pair_case, offset_at, is_table, HasTable}
use Rattle.jc_decode.specs.Encoding.{bits, operand_bytes, Allows, AllowsBy, IsAllowed, head_bytes}
use Rattle.jc_decode.specs.Encoding.{table_bytes, encoding, encoding_by, sized, ReadsBack}
use Rattle.jc_decode.proofs.Decoded.{decoded-Begins, reached-within, reached-ok, pairs_end-ok, range_end-ok, from_bind}
use Rattle.jc_decode.proofs.Tables.{HasTable-end, table_within, cases-by}
use Rattle.jc_decode.proofs.Windows.{Alike, Alike-part, number_at-reached, operand_at-alike, find-alike, map-alike}
use Rattle.jc_decode.proofs.Rising.{keys_rise-none}

-- a number is read back from its bytes
number-back : (w n : ℕ) (ys pre post : List ℕ) (at : ℕ) → ys ≡ pre ++ (big_bytes w n ++ post) → at ≡ length pre → n < 256 ^ w
    → number_at w at ys ≡ Some n
number-back w n ys pre post at here place fits =
    let len : at + w ≤ length ys = rw (here, place)
    (omega (arith, length-append pre (big_bytes w n ++ post), length-append (big_bytes w n) post, length-bytes_high_first w n)) in
    let rest : drop at ys ≡ big_bytes w n ++ post = rw (here, place) (drop-append_seam pre (big_bytes w n ++ post)) in
    number_at-reached w at ys len ∙ ap Some (ap (big_number w) rest ∙ big_from-bytes w n post ∙ mod-eq_of_lt fits)

value-bits : (o : Operand) (v : ℤ) → FitsOperand o v → value o (bits o v) ≡ v
value-bits x v h = grind (arith, to_z-of_z)

number_of-back : (o : Operand) (n : ℕ) (ys : List ℕ) (at : ℕ) → number_at (operand_width o) at ys ≡ Some n → (o ≡ Absent → n ≡ 0)
    → operand_number o ys at ≡ Some n
number_of-back x n ys at h none = grind (arith)

bits-absent : (o : Operand) (v : ℤ) → o ≡ Absent → bits o v ≡ 0
bits-absent o v h = rw h refl

-- an operand is read back from its bytes
pub operand-back : (o : Operand) (v : ℤ) (ys pre post : List ℕ) (at : ℕ) → ys ≡ pre ++ (operand_bytes o v ++ post) → at ≡ length pre
    → Allows o v
    → operand_at o ys at ≡ Ok v
operand-back o v ys pre post at here place allowed =
    let number = number-back (operand_width o) (bits o v) ys pre post at here place (grind (arith)) in
    let read = number_of-back o (bits o v) ys at number (bits-absent o v) in
    let yes : allows o (bits o v) ≡ true = search (rules, allowed.1) in
    rw (read, yes, value-bits o v allowed.0) refl

-- a pair ends where the next begins
pub pair_before : (w n count : ℕ) → n < count → w * n + w ≤ w * count
pair_before w n count h = grind (arith, suc, mul-le-mul_left, mul-suc)

-- the length of a table, by its form
abbrev pub FitsTable : Cases → ℤ → ℤ → ℕ → Type 0
FitsTable NoCases y z m = m ≡ 0
FitsTable Range y z m = m ≡ 2 * range_count y z
FitsTable (Pairs key) y z m = m ≡ pair_width key * unsigned_abs y

-- keys that stand alike are read alike
key_at-alike : (key : Operand) (xs ys : List ℕ) (t u m count n : ℕ) → Alike xs t ys u m → m ≡ pair_width key * count → n < count
    → key_at key xs t n ≡ key_at key ys u n
key_at-alike key xs ys t u m count n a size h =
    let before = pair_before (pair_width key) n count h in
    let part = Alike-part xs t ys u m (pair_width key * n) (operand_width key) a (omega (arith, before, size)) in
    ap (λ (r : Result ℤ CodeEnd). result_unwrap_or r (pos 0)) (operand_at-alike key (t + pair_width key * n) (u + pair_width key * n) xs ys part)

rises-alike : (key : Operand) (xs ys : List ℕ) (t u m count n : ℕ) → Alike xs t ys u m → m ≡ pair_width key * count → 1 ≤ n → n < count
    → rises key xs t n ≡ rises key ys u n
rises-alike key xs ys t u m count n a size low h =
    grind (arith, key_at-alike key xs ys t u m count n a size h, key_at-alike key xs ys t u m count (n - 1) a size (omega arith))

-- the table ends alike
range_end-alike : (bound : Operand) (xs ys : List ℕ) (t u m : ℕ) (y z : ℤ) → Alike xs t ys u m → range_end bound xs t y z ≡ Ok (t + m)
    → range_end bound ys u y z ≡ Ok (u + m)
range_end-alike bound xs ys t u m y z a h = by_test (int_lt z y) h
  where
    by_test : (b : Bool) → cond b (Err (bad_operand xs (t - operand_width bound))) (within_bytes xs (t + 2 * range_count y z)) ≡ Ok (t + m)
        → cond b (Err (bad_operand ys (u - operand_width bound))) (within_bytes ys (u + 2 * range_count y z)) ≡ Ok (u + m)
    by_test true h = absurd (cc)
    by_test false h =
        let place = reached-ok xs (t + 2 * range_count y z) (t + m) h in
        let same : u + 2 * range_count y z ≡ u + m = omega (arith, place.0) in
        rw same (reached-within ys (u + m) a.right)

pairs_end-alike : (key : Operand) (xs ys : List ℕ) (t u m count : ℕ) → Alike xs t ys u m → m ≡ pair_width key * count
    → pairs_end key xs t count ≡ Ok (t + m) → pairs_end key ys u count ≡ Ok (u + m)
pairs_end-alike key xs ys t u m count a size h =
    from_bind (within_bytes xs (t + pair_width key * count)) _ (t + m) h (λ end end_is h1.
    let none = keys_rise-none key xs t end _ (t + m) h1 in
    let same : u + pair_width key * count ≡ u + m = omega (arith, size) in
    let search_same = find-alike (λ n. not (rises key xs t n)) (λ n. not (rises key ys u n)) 1 (count - 1)
    (λ n low high. ap not (rises-alike key xs ys t u m count n a size low (omega arith))) in
    rw (same, reached-within ys (u + m) a.right, ← search_same, none) refl)

end-alike : (k : Cases) (bound : Operand) (xs ys : List ℕ) (t u m : ℕ) (y z : ℤ) → Alike xs t ys u m → FitsTable k y z m
    → end_of_cases k bound xs t y z ≡ Ok (t + m) → end_of_cases k bound ys u y z ≡ Ok (u + m)
end-alike NoCases bound xs ys t u m y z a size h = ap Ok (omega (arith, size))
end-alike Range bound xs ys t u m y z a size h = range_end-alike bound xs ys t u m y z a h
end-alike (Pairs key) bound xs ys t u m y z a size h = pairs_end-alike key xs ys t u m (unsigned_abs y) a size h

-- a table that has an end is as long as its form says
pub fits-table : (k : Cases) (bound : Operand) (xs : List ℕ) (t m : ℕ) (y z : ℤ) → end_of_cases k bound xs t y z ≡ Ok (t + m) → FitsTable k y z m
fits-table x bound xs t m y z h = grind (arith, range_end-ok, pairs_end-ok)

-- the cases are alike
offset_at-alike : (xs ys : List ℕ) (t u m a : ℕ) → Alike xs t ys u m → a + 2 ≤ m → offset_at xs (t + a) ≡ offset_at ys (u + a)
offset_at-alike xs ys t u m a alike inside =
    ap (λ (r : Result ℤ CodeEnd). result_unwrap_or r (pos 0)) (operand_at-alike S2 (t + a) (u + a) xs ys (Alike-part xs t ys u m a 2 alike inside))

pair_case-alike : (xs ys : List ℕ) (t u m count n : ℕ) (key : Operand) → Alike xs t ys u m → m ≡ pair_width key * count → n < count
    → pair_case xs t key n ≡ pair_case ys u key n
pair_case-alike xs ys t u m count n key a size h =
    let before = pair_before (pair_width key) n count h in
    let place : t + pair_width key * n + operand_width key ≡ t + (pair_width key * n + operand_width key) = omega arith in
    let other : u + pair_width key * n + operand_width key ≡ u + (pair_width key * n + operand_width key) = omega arith in
    let offset = offset_at-alike xs ys t u m (pair_width key * n + operand_width key) a (omega (arith, before, size)) in
    rw (key_at-alike key xs ys t u m count n a size h, place, other, offset) refl

pub cases_in-alike : (k : Cases) (xs ys : List ℕ) (t u m : ℕ) (i j : Insn) → i.y ≡ j.y → i.z ≡ j.z → Alike xs t ys u m → FitsTable k i.y i.z m
    → cases_in k xs t i ≡ cases_in k ys u j
cases_in-alike NoCases xs ys t u m i j y z a size = refl
cases_in-alike Range xs ys t u m i j y z a size = grind (arith, map-alike, offset_at-alike)
cases_in-alike (Pairs key) xs ys t u m i j y z a size =
    rw (← y) (map-alike (pair_case xs t key) (pair_case ys u key) 0 (unsigned_abs i.y)
    (λ n low high. pair_case-alike xs ys t u m (unsigned_abs i.y) n key a size (omega arith)))

-- the bytes of an instruction between others, cut at each operand
record Pieces (op : ℕ) (x y z table : List ℕ) (before after : List ℕ) (ys : List ℕ) : Type 0 where
  opcode : ys ≡ before ++ op ∷ (x ++ (y ++ (z ++ (table ++ after))))
  at_x : ys ≡ (before ++ op ∷ []) ++ (x ++ (y ++ (z ++ (table ++ after))))
  at_y : ys ≡ ((before ++ op ∷ []) ++ x) ++ (y ++ (z ++ (table ++ after)))
  at_z : ys ≡ (((before ++ op ∷ []) ++ x) ++ y) ++ (z ++ (table ++ after))
  at_table : ys ≡ ((((before ++ op ∷ []) ++ x) ++ y) ++ z) ++ (table ++ after)

cut : (op : ℕ) (x y z table before after : List ℕ) → Pieces op x y z table before after (before ++ ((op ∷ (x ++ (y ++ z)) ++ table) ++ after))
cut op x y z table before after = grind (arith, append_assoc)

opcode-back : (op : ℕ) (ys before rest : List ℕ) → ys ≡ before ++ op ∷ rest → number_at 1 (length before) ys ≡ Some op
opcode-back op ys before rest here = grind (arith, length-append, drop-append_seam, number_at-reached)

-- a table that is copied stands alike
copied : (xs : List ℕ) (t m : ℕ) (ys pre after : List ℕ) (u : ℕ) → t + m ≤ length xs → ys ≡ pre ++ (take m (drop t xs) ++ after)
    → u ≡ length pre
    → Alike xs t ys u m
copied xs t m ys pre after u inside here place =
    grind (arith, length-take, length-drop, get_or-append-add, get_or_append_left, get_or-take, get_or-drop, length-append)

-- where the table's copy begins
length-head : (l : Layout) (i : Insn) (before : List ℕ)
    → (length before + 1 ≡ length (before ++ i.op ∷ []))
    × (length before + 1 + operand_width l.x ≡ length ((before ++ i.op ∷ []) ++ operand_bytes l.x i.x))
    × (length before + 1 + operand_width l.x + operand_width l.y ≡ length (((before ++ i.op ∷ []) ++ operand_bytes l.x i.x) ++ operand_bytes l.y i.y))
    × (length before + 1 + total_width l ≡ length ((((before ++ i.op ∷ []) ++ operand_bytes l.x i.x) ++ operand_bytes l.y i.y) ++ operand_bytes l.z i.z))
length-head l i before = grind (arith, length-append)

-- what is known of the table of an instruction in another list: it ends after m bytes, has their length and their cases
record TableBack (l : Layout) (xs : List ℕ) (at : ℕ) (i : Insn) (ys : List ℕ) (u : ℕ) : Type 0 where
  ends : table_end l ys u i.y i.z ≡ Ok (u + length (table_bytes l xs at i))
  cases : (j : Insn) → i.y ≡ j.y → i.z ≡ j.z → cases_in l.cases xs (at + 1 + total_width l) i ≡ cases_in l.cases ys u j

table-back : (b : Bool) (l : Layout) (xs : List ℕ) (at : ℕ) (i : Insn) (ys pre after : List ℕ) (u : ℕ) → layout_of i.op ≡ Ok l → HasTable xs at i
    → is_table l.cases ≡ b → ys ≡ pre ++ (table_bytes l xs at i ++ after) → u ≡ length pre → TableBack l xs at i ys u
table-back true l xs at i ys pre after u is_layout has present here place =
    let t = at + 1 + total_width l in
    let m = i.len - (1 + total_width l) in
    let within = table_within xs at i l has is_layout present in
    let ends = HasTable-end xs at i l has is_layout present in
    let whole : at + i.len ≡ t + m = omega (arith, within.0) in
    let bytes : table_bytes l xs at i ≡ take m (drop t xs) = rw present refl in
    let alike = copied xs t m ys pre after u (omega (arith, within.1, whole)) (here ∙ ap (λ (b : List ℕ). pre ++ (b ++ after)) bytes) place in
    let ends_at : end_of_cases l.cases l.z xs t i.y i.z ≡ Ok (t + m) = ends.0 ∙ ap Ok whole in
    let fits = fits-table l.cases l.z xs t m i.y i.z ends_at in
    let size : length (table_bytes l xs at i) ≡ m = ap length bytes ∙ omega (arith, length-take m (drop t xs), length-drop t xs, within.1, whole) in
    record {
      ends = end-alike l.cases l.z xs ys t u m i.y i.z alike fits ends_at ∙ ap (λ (n : ℕ). Ok (u + n)) (sym size);
      cases = λ j y z. cases_in-alike l.cases xs ys t u m i j y z alike fits;
    }
table-back false l xs at i ys pre after u is_layout has none here place =
    let absent = absent-table l.cases none in
    record { ends = rw (none, absent) (ap Ok (omega arith)); cases = λ j y z. rw absent refl }
  where
    absent-table : (k : Cases) → is_table k ≡ false → k ≡ NoCases
    absent-table NoCases h = refl
    absent-table Range h = absurd (cc)
    absent-table (Pairs key) h = absurd (cc)

pub length-head_bytes : (l : Layout) (i : Insn) → length (head_bytes l i) ≡ 1 + total_width l
length-head_bytes l i =
    omega (
      arith,
      length-append (operand_bytes l.x i.x) (operand_bytes l.y i.y ++ operand_bytes l.z i.z),
      length-append (operand_bytes l.y i.y) (operand_bytes l.z i.z),
      length-bytes_high_first (operand_width l.x) (bits l.x i.x),
      length-bytes_high_first (operand_width l.y) (bits l.y i.y),
      length-bytes_high_first (operand_width l.z) (bits l.z i.z),
    )

-- the table of an instruction whose bytes stand between others
table-between : (l : Layout) (xs : List ℕ) (at : ℕ) (i : Insn) (before after : List ℕ) → layout_of i.op ≡ Ok l → HasTable xs at i
    → TableBack l xs at i (before ++ ((head_bytes l i ++ table_bytes l xs at i) ++ after)) (length before + 1 + total_width l)
table-between l xs at i before after is_layout has =
    let c = cut i.op (operand_bytes l.x i.x) (operand_bytes l.y i.y) (operand_bytes l.z i.z) (table_bytes l xs at i) before after in
    let n = length-head l i before in
    table-back (is_table l.cases) l xs at i _ _ after (length before + 1 + total_width l) is_layout has refl c.at_table n.3

-- an instruction of this layout begins where its bytes stand
Begins-between : (l : Layout) (xs : List ℕ) (at : ℕ) (i : Insn) (before after : List ℕ) → layout_of i.op ≡ Ok l → AllowsBy i (Ok l)
    → HasTable xs at i
    → Begins (before ++ ((head_bytes l i ++ table_bytes l xs at i) ++ after)) (length before) (sized (head_bytes l i ++ table_bytes l xs at i) i)
Begins-between l xs at i before after is_layout allowed has =
    let ys = before ++ ((head_bytes l i ++ table_bytes l xs at i) ++ after) in
    let c = cut i.op (operand_bytes l.x i.x) (operand_bytes l.y i.y) (operand_bytes l.z i.z) (table_bytes l xs at i) before after in
    let n = length-head l i before in
    let t = table-between l xs at i before after is_layout has in
    let head = length-head_bytes l i in
    let bytes = length-append (head_bytes l i) (table_bytes l xs at i) in
    let whole = length-append before ((head_bytes l i ++ table_bytes l xs at i) ++ after) in
    let inner = length-append (head_bytes l i ++ table_bytes l xs at i) after in
    record {
      opcode = opcode-back i.op ys before _ c.opcode;
      layout = l;
      is_layout = is_layout;
      reaches = omega (arith, head, bytes, whole, inner);
      x = operand-back l.x i.x ys _ _ (length before + 1) c.at_x n.0 allowed.0;
      y = operand-back l.y i.y ys _ _ (length before + 1 + operand_width l.x) c.at_y n.1 allowed.1;
      z = operand-back l.z i.z ys _ _ (length before + 1 + operand_width l.x + operand_width l.y) c.at_z n.2 allowed.2;
      ends = t.ends ∙ ap Ok (omega (arith, head, bytes));
    }

read-back : (l : Layout) (xs : List ℕ) (at : ℕ) (i : Insn) → layout_of i.op ≡ Ok l → AllowsBy i (Ok l) → HasTable xs at i
    → ReadsBack xs at i (head_bytes l i ++ table_bytes l xs at i)
read-back l xs at i is_layout allowed has = record {
  insn = λ before after. decoded-Begins _ (length before) _ (Begins-between l xs at i before after is_layout allowed has);
  cases = λ before after.
      let t = table-between l xs at i before after is_layout has in
      let j = sized (head_bytes l i ++ table_bytes l xs at i) i in
      cases-by (before ++ ((head_bytes l i ++ table_bytes l xs at i) ++ after)) (length before) j l l.cases is_layout refl
      ∙ sym (t.cases j refl refl) ∙ sym (cases-by xs at i l l.cases is_layout refl);
}

-- an instruction's bytes are read back
pub ReadsBack-encoding : (xs : List ℕ) (at : ℕ) (i : Insn) → IsAllowed i → HasTable xs at i → ReadsBack xs at i (encoding xs at i)
unfolding encoding
ReadsBack-encoding xs at i allowed has = by_layout (layout_of i.op) refl allowed
  where
    by_layout : (r : Result Layout CodeEnd) → layout_of i.op ≡ r → AllowsBy i r → ReadsBack xs at i (encoding_by r xs at i)
    by_layout (Ok l) is_layout fits = read-back l xs at i is_layout fits has
    by_layout (Err e) is_layout fits = absurd fits
