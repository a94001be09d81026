-- The offset of one case is written, and nothing else changes.
use Rattle.std.proofs.Common.{◌≡◌, ◌≢◌, ◌<◌, ◌≤◌, ◌+◌, ◌*◌, ◌-◌, ◌⊎◌, inl, inr, ℕ, Bool, true, false, cond, Some}
use Rattle.std.proofs.Common.{Result, Ok, Err, List, length, take, drop, slice_index, refl, sym, ap, ◌∙◌, arith, rules, length-append}
use Rattle.std.specs.Prelude.{ℤ, pos, ◌+ℤ◌, FitsSigned, int_lt, unsigned_abs, map, not, slice_get}
use Rattle.std.specs.List.{range_with_len}
use Rattle.std.specs.Option.{option_map}
use Rattle.std.specs.Result.{result_unwrap_or}
use Rattle.std.specs.Int.{w16, cast_unsigned}
use Rattle.std.proofs.lemmas.Bool.{cases_lt}
use Rattle.std.proofs.Math.Nat.{mul-le-mul_left}
use Rattle.std.proofs.lemmas.List.{get_or-drop, get_or-take, get_or_append_left, get_or-append_right, length-drop, length-take}
use Rattle.std.proofs.lemmas.List.FromFn.{length-map-range_with_len}
use Rattle.byteorder.specs.Endian.{big_bytes}
use Rattle.byteorder.specs.Numbers.{length-bytes_high_first}
use Rattle.jc_decode.specs.declared.layout.Operand.{Operand}
use Rattle.jc_decode.specs.declared.layout.Operand.TheVariants.{S2}
use Rattle.jc_decode.specs.declared.layout.Cases.{Cases}
use Rattle.jc_decode.specs.declared.layout.Cases.TheVariants.{Range, Pairs}
use Rattle.jc_decode.specs.declared.layout.Cases.TheVariants.{Absent as NoCases}
use Rattle.jc_decode.specs.declared.layout.Layout.{Layout}
use Rattle.jc_decode.specs.declared.insn.CodeEnd.{CodeEnd}
use Rattle.jc_decode.specs.declared.insn.Insn.{Insn}
use Rattle.jc_decode.specs.declared.insn.Case.{Case}
use Rattle.jc_decode.specs.Layout.{operand_width, total_width, layout_of}
use Rattle.jc_decode.specs.Decoding.{within_bytes, bad_operand, key_at, rises, pair_width, range_count}
use Rattle.jc_decode.specs.Decoding.{range_end, pairs_end, table_end, decoded, Begins}
use Rattle.jc_decode.specs.Cases.{cases, range_case, pair_case, offset_at, offset_place, offset_place_in, with_offset, leading}
use Rattle.jc_decode.proofs.Decoded.{decoded-Begins, Begins-decoded, reached-within, reached-ok, pairs_end-ok, range_end-ok, from_bind}
use Rattle.jc_decode.proofs.Tables.{cases-by, slice_get-map-range, slice_get-past-range}
use Rattle.jc_decode.proofs.Windows.{Alike, number_at-alike, operand_at-alike, find-alike}
use Rattle.jc_decode.proofs.ReadBack.{operand-back, pair_before}
use Rattle.jc_decode.proofs.Rising.{keys_rise-none}

-- where the offset of a case stands, by the layout
pub offset_place-by : (at : ℕ) (i : Insn) (n : ℕ) (l : Layout) (k : Cases) → layout_of i.op ≡ Ok l → l.cases ≡ k
    → offset_place at i n ≡ offset_place_in k (at + 1 + total_width l) n
unfolding offset_place
offset_place-by at i n l k is_layout is_cases = rw (is_layout, is_cases) refl

pub offset_place-none : (at : ℕ) (i : Insn) (n : ℕ) (e : CodeEnd) → layout_of i.op ≡ Err e → offset_place at i n ≡ at
unfolding offset_place
offset_place-none at i n e is_layout = rw is_layout refl

-- an offset is written into xs at a place
pub record Written (xs : List ℕ) (p : ℕ) (offset : ℤ) : Type 0 where
  pub inside : p + 2 ≤ length xs
  pub fits : FitsSigned w16 offset

length-two : (offset : ℤ) → length (big_bytes 2 (cast_unsigned w16 offset)) ≡ 2
length-two offset = length-bytes_high_first 2 (cast_unsigned w16 offset)

length-written : (xs : List ℕ) (p : ℕ) (offset : ℤ) → Written xs p offset → length (with_offset xs p offset) ≡ length xs
length-written xs p offset w = grind (arith, length-append, length-two, length-take, length-drop)

after-written : (xs : List ℕ) (p : ℕ) (offset : ℤ) (k : ℕ) → Written xs p offset → p + 2 ≤ k → slice_index (with_offset xs p offset) k
    ≡ slice_index xs k
after-written xs p offset k w h = grind (arith, length-take, get_or-append_right, length-two, get_or-drop, slice_index)

-- what does not meet the offset is as it was
alike-before : (xs : List ℕ) (p : ℕ) (offset : ℤ) (a m : ℕ) → Written xs p offset → a + m ≤ p → Alike (with_offset xs p offset) a xs a m
alike-before xs p offset a m w h = grind (arith, length-written, get_or_append_left, length-take, get_or-take)

alike-after : (xs : List ℕ) (p : ℕ) (offset : ℤ) (a m : ℕ) → Written xs p offset → p + 2 ≤ a → a + m ≤ length xs
    → Alike (with_offset xs p offset) a xs a m
alike-after xs p offset a m w low high = grind (arith, after-written, length-written)

-- the offset itself is read back
offset-written : (xs : List ℕ) (p : ℕ) (offset : ℤ) → Written xs p offset → offset_at (with_offset xs p offset) p ≡ offset
offset-written xs p offset w =
    let place : p ≡ length (take p xs) = omega (arith, length-take p xs, w.inside) in
    ap (λ (r : Result ℤ CodeEnd). result_unwrap_or r (pos 0))
    (operand-back S2 offset (with_offset xs p offset) (take p xs) (drop (p + 2) xs) p refl place (w.fits, search rules))

-- keys are as they were
key_at-written : (key : Operand) (xs : List ℕ) (t count n k p : ℕ) (offset : ℤ) → Written xs p offset
    → p ≡ t + pair_width key * n + operand_width key
    → t + pair_width key * count ≤ length xs → k < count → key_at key (with_offset xs p offset) t k ≡ key_at key xs t k
key_at-written key xs t count n k p offset w place inside h =
    ap (λ (r : Result ℤ CodeEnd). result_unwrap_or r (pos 0))
    (operand_at-alike key (t + pair_width key * k) (t + pair_width key * k) (with_offset xs p offset) xs (by_side (cases_lt n k)))
  where
    by_side : (n < k) ⊎ (k ≤ n) → Alike (with_offset xs p offset) (t + pair_width key * k) xs (t + pair_width key * k) (operand_width key)
    by_side (inl later) =
        let next = pair_before (pair_width key) n k later in
        let last = pair_before (pair_width key) k count h in
        alike-after xs p offset (t + pair_width key * k) (operand_width key) w (omega (arith, next, place)) (omega (arith, last, inside))
    by_side (inr here) =
        let same = mul-le-mul_left (pair_width key) here in
        alike-before xs p offset (t + pair_width key * k) (operand_width key) w (omega (arith, same, place))

-- the other offsets are as they were
pair_offset-written : (key : Operand) (xs : List ℕ) (t count n k p : ℕ) (offset : ℤ) → Written xs p offset
    → p ≡ t + pair_width key * n + operand_width key
    → t + pair_width key * count ≤ length xs → k < count → k ≢ n
    → offset_at (with_offset xs p offset) (t + pair_width key * k + operand_width key) ≡ offset_at xs (t + pair_width key * k + operand_width key)
pair_offset-written key xs t count n k p offset w place inside h other =
    ap (λ (r : Result ℤ CodeEnd). result_unwrap_or r (pos 0))
    (operand_at-alike S2 _ _ (with_offset xs p offset) xs (by_side (cases_lt n k)))
  where
    by_side : (n < k) ⊎ (k ≤ n) → Alike (with_offset xs p offset) (t + pair_width key * k + operand_width key) xs
        (t + pair_width key * k + operand_width key) 2
    by_side (inl later) =
        let next = pair_before (pair_width key) n k later in
        let last = pair_before (pair_width key) k count h in
        alike-after xs p offset _ 2 w (omega (arith, next, place)) (omega (arith, last, inside))
    by_side (inr here) =
        let below : k < n = omega (arith, other) in
        let next = pair_before (pair_width key) k n below in
        alike-before xs p offset _ 2 w (omega (arith, next, place))

range_offset-written : (xs : List ℕ) (t count n k p : ℕ) (offset : ℤ) → Written xs p offset → p ≡ t + 2 * n → t + 2 * count ≤ length xs
    → k < count → k ≢ n
    → offset_at (with_offset xs p offset) (t + 2 * k) ≡ offset_at xs (t + 2 * k)
range_offset-written xs t count n k p offset w place inside h other =
    ap (λ (r : Result ℤ CodeEnd). result_unwrap_or r (pos 0))
    (operand_at-alike S2 _ _ (with_offset xs p offset) xs (by_side (cases_lt n k)))
  where
    by_side : (n < k) ⊎ (k ≤ n) → Alike (with_offset xs p offset) (t + 2 * k) xs (t + 2 * k) 2
    by_side (inl later) = alike-after xs p offset _ 2 w (omega arith) (omega arith)
    by_side (inr here) = let below : k < n = omega (arith, other) in alike-before xs p offset _ 2 w (omega arith)

-- the table ends where it did
range_end-written : (bound : Operand) (xs : List ℕ) (t p e : ℕ) (y z offset : ℤ) → Written xs p offset → range_end bound xs t y z ≡ Ok e
    → range_end bound (with_offset xs p offset) t y z ≡ Ok e
range_end-written bound xs t p e y z offset w h = by_test (int_lt z y) h
  where
    by_test : (b : Bool) → cond b (Err (bad_operand xs (t - operand_width bound))) (within_bytes xs (t + 2 * range_count y z)) ≡ Ok e
        → cond b (Err (bad_operand (with_offset xs p offset) (t - operand_width bound)))
        (within_bytes (with_offset xs p offset) (t + 2 * range_count y z)) ≡ Ok e
    by_test true h = absurd (cc)
    by_test false h =
        let place = reached-ok xs (t + 2 * range_count y z) e h in
        reached-within (with_offset xs p offset) (t + 2 * range_count y z) (omega (arith, place.0, place.1, length-written xs p offset w))
        ∙ ap Ok (sym place.0)

pairs_end-written : (key : Operand) (xs : List ℕ) (t count n p e : ℕ) (offset : ℤ) → Written xs p offset
    → p ≡ t + pair_width key * n + operand_width key
    → pairs_end key xs t count ≡ Ok e → pairs_end key (with_offset xs p offset) t count ≡ Ok e
pairs_end-written key xs t count n p e offset w place h =
    let whole = pairs_end-ok key xs t count e h in
    let inside : t + pair_width key * count ≤ length xs = omega (arith, whole.0, whole.1) in
    from_bind (within_bytes xs (t + pair_width key * count)) _ e h (λ end end_is h1.
    let none = keys_rise-none key xs t end _ e h1 in
    let search_same = find-alike (λ k. not (rises key (with_offset xs p offset) t k)) (λ k. not (rises key xs t k)) 1 (count - 1)
    (λ k low high. ap not (rises-written k inside low (omega arith))) in
    let reach = reached-within (with_offset xs p offset) (t + pair_width key * count) (omega (arith, inside, length-written xs p offset w)) in
    rw (reach, search_same, none) (ap Ok (sym whole.0)))
  where
    rises-written : (k : ℕ) → t + pair_width key * count ≤ length xs → 1 ≤ k → k < count → rises key (with_offset xs p offset) t k
        ≡ rises key xs t k
    rises-written k inside low high =
        let this = key_at-written key xs t count n k p offset w place inside high in
        let one = key_at-written key xs t count n (k - 1) p offset w place inside (omega arith) in
        rw (this, one) refl

-- the cases of two tables of the same length, place by place
map-other : (f g : ℕ → Case) (count k : ℕ) → (k < count → f k ≡ g k) → slice_get (map f (range_with_len 0 count)) k
    ≡ slice_get (map g (range_with_len 0 count)) k
map-other f g count k same = by_side (cases_lt k count)
  where
    by_side : (k < count) ⊎ (count ≤ k) → slice_get (map f (range_with_len 0 count)) k ≡ slice_get (map g (range_with_len 0 count)) k
    by_side (inl h) = slice_get-map-range f count k h ∙ ap Some (same h) ∙ sym (slice_get-map-range g count k h)
    by_side (inr h) = slice_get-past-range f count k h ∙ sym (slice_get-past-range g count k h)

map-at : (f g : ℕ → Case) (offset : ℤ) (count n : ℕ) → n < count → f n ≡ leading offset (g n)
    → slice_get (map f (range_with_len 0 count)) n ≡ option_map (leading offset) (slice_get (map g (range_with_len 0 count)) n)
map-at f g offset count n h same = grind (arith, slice_get-map-range)

-- what an offset leaves of a switch
pub record SetCase (xs : List ℕ) (at : ℕ) (i : Insn) (n p : ℕ) (offset : ℤ) : Type 0 where
  pub inside : p + 2 ≤ length xs
  pub insn : decoded (with_offset xs p offset) at ≡ Ok i
  pub changed : slice_get (cases (with_offset xs p offset) at i) n ≡ option_map (leading offset) (slice_get (cases xs at i) n)
  pub others : (k : ℕ) → k ≢ n → slice_get (cases (with_offset xs p offset) at i) k ≡ slice_get (cases xs at i) k

-- an instruction begins where it did, if its table ends where it did
Begins-written : (xs : List ℕ) (at p : ℕ) (i : Insn) (offset : ℤ) → (b : Begins xs at i) → Written xs p offset → at + 1 + total_width b.layout ≤ p
    → table_end b.layout (with_offset xs p offset) (at + 1 + total_width b.layout) i.y i.z ≡ Ok (at + i.len) → Begins (with_offset xs p offset) at i
Begins-written xs at p i offset b w farther ends = record {
  opcode = number_at-alike 1 at at (with_offset xs p offset) xs (alike-before xs p offset at 1 w (omega (arith, farther))) ∙ b.opcode;
  layout = b.layout;
  is_layout = b.is_layout;
  reaches = omega (arith, b.reaches, length-written xs p offset w);
  x = operand_at-alike b.layout.x _ _ (with_offset xs p offset) xs (alike-before xs p offset _ _ w (omega (arith, farther))) ∙ b.x;
  y = operand_at-alike b.layout.y _ _ (with_offset xs p offset) xs (alike-before xs p offset _ _ w (omega (arith, farther))) ∙ b.y;
  z = operand_at-alike b.layout.z _ _ (with_offset xs p offset) xs (alike-before xs p offset _ _ w (omega (arith, farther))) ∙ b.z;
  ends = ends;
}

range_case-at : (xs : List ℕ) (t n p : ℕ) (low offset : ℤ) → Written xs p offset → p ≡ t + 2 * n
    → range_case (with_offset xs p offset) t low n ≡ leading offset (range_case xs t low n)
range_case-at xs t n p low offset w place = grind (arith, offset-written)

pair_case-at : (key : Operand) (xs : List ℕ) (t count n p : ℕ) (offset : ℤ) → Written xs p offset → p ≡ t + pair_width key * n + operand_width key
    → t + pair_width key * count ≤ length xs → n < count
    → pair_case (with_offset xs p offset) t key n ≡ leading offset (pair_case xs t key n)
pair_case-at key xs t count n p offset w place inside h = grind (arith, key_at-written, offset-written)

pair_case-other : (key : Operand) (xs : List ℕ) (t count n k p : ℕ) (offset : ℤ) → Written xs p offset
    → p ≡ t + pair_width key * n + operand_width key
    → t + pair_width key * count ≤ length xs → k < count → k ≢ n
    → pair_case (with_offset xs p offset) t key k ≡ pair_case xs t key k
pair_case-other key xs t count n k p offset w place inside h other = grind (arith, key_at-written, pair_offset-written)

set-range : (xs : List ℕ) (at n p : ℕ) (i : Insn) (offset : ℤ) → (b : Begins xs at i) → b.layout.cases ≡ Range → n < length (cases xs at i)
    → FitsSigned w16 offset → p ≡ at + 1 + total_width b.layout + 2 * n → SetCase xs at i n p offset
set-range xs at n p i offset b is_range counted fits place =
    let t = at + 1 + total_width b.layout in
    let l = b.layout in
    let count = range_count i.y i.z in
    let old = cases-by xs at i l Range b.is_layout is_range in
    let new = cases-by (with_offset xs p offset) at i l Range b.is_layout is_range in
    let ends : range_end l.z xs t i.y i.z ≡ Ok (at + i.len) = rw is_range at b.ends in
    let whole = range_end-ok l.z xs t i.y i.z (at + i.len) ends in
    let few : n < count = omega (arith, counted, ap length old, length-map-range_with_len (range_case xs t i.y) 0 count) in
    let w : Written xs p offset = record { inside = omega (arith, whole.0, whole.1, few, place); fits = fits } in
    let end : table_end l (with_offset xs p offset) t i.y i.z ≡ Ok (at + i.len) = rw is_range
    (range_end-written l.z xs t p (at + i.len) i.y i.z offset w ends) in
    record {
      inside = w.inside;
      insn = decoded-Begins (with_offset xs p offset) at i (Begins-written xs at p i offset b w (omega (arith, place)) end);
      changed = grind (arith, map-at, range_case-at);
      others = λ k other. rw (new, old) (map-other (range_case (with_offset xs p offset) t i.y) (range_case xs t i.y) count k
          (λ h. ap (λ (o : ℤ). record { key = i.y +ℤ pos k; offset = o })
          (range_offset-written xs t count n k p offset w place (omega (arith, whole.0, whole.1)) h other)));
    }

set-pairs : (key : Operand) (xs : List ℕ) (at n p : ℕ) (i : Insn) (offset : ℤ) → (b : Begins xs at i) → b.layout.cases ≡ Pairs key
    → n < length (cases xs at i)
    → FitsSigned w16 offset → p ≡ at + 1 + total_width b.layout + pair_width key * n + operand_width key → SetCase xs at i n p offset
set-pairs key xs at n p i offset b is_pairs counted fits place =
    let t = at + 1 + total_width b.layout in
    let l = b.layout in
    let count = unsigned_abs i.y in
    let old = cases-by xs at i l (Pairs key) b.is_layout is_pairs in
    let new = cases-by (with_offset xs p offset) at i l (Pairs key) b.is_layout is_pairs in
    let ends : pairs_end key xs t count ≡ Ok (at + i.len) = rw is_pairs at b.ends in
    let whole = pairs_end-ok key xs t count (at + i.len) ends in
    let few : n < count = omega (arith, counted, ap length old, length-map-range_with_len (pair_case xs t key) 0 count) in
    let inside : t + pair_width key * count ≤ length xs = omega (arith, whole.0, whole.1) in
    let w : Written xs p offset = record { inside = omega (arith, inside, pair_before (pair_width key) n count few, place); fits = fits } in
    let end : table_end l (with_offset xs p offset) t i.y i.z ≡ Ok (at + i.len) = rw is_pairs
    (pairs_end-written key xs t count n p (at + i.len) offset w place ends) in
    record {
      inside = w.inside;
      insn = decoded-Begins (with_offset xs p offset) at i (Begins-written xs at p i offset b w (omega (arith, place)) end);
      changed = grind (arith, map-at, pair_case-at);
      others = grind (arith, map-other, pair_case-other);
    }

-- the n-th case of a switch is given an offset
pub SetCase-offset : (xs : List ℕ) (at n : ℕ) (i : Insn) (offset : ℤ) → decoded xs at ≡ Ok i → n < length (cases xs at i) → FitsSigned w16 offset
    → SetCase xs at i n (offset_place at i n) offset
SetCase-offset xs at n i offset h counted fits =
    let b = Begins-decoded xs at i h in
    by_cases b b.layout.cases refl
  where
    by_cases : (b : Begins xs at i) (k : Cases) → b.layout.cases ≡ k → SetCase xs at i n (offset_place at i n) offset
    by_cases b NoCases is = absurd (omega (arith, counted, ap length (cases-by xs at i b.layout NoCases b.is_layout is)))
    by_cases b Range is = set-range xs at n (offset_place at i n) i offset b is counted fits (offset_place-by at i n b.layout Range b.is_layout is)
    by_cases b (Pairs key) is =
        set-pairs key xs at n (offset_place at i n) i offset b is counted fits (offset_place-by at i n b.layout (Pairs key) b.is_layout is)
