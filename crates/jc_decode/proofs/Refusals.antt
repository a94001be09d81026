-- A code's end is told exactly where no instruction begins for that reason.
use Rattle.std.proofs.Common.{inl, inr, subst, ◌≡◌, ◌<◌, ◌≤◌, ◌+◌, ◌*◌, ◌-◌, ℕ, zero, suc, Bool, true, false, cond, nat_le}
use Rattle.std.proofs.Common.{get_or, Option, Some, None, Result, Ok, Err, List, length, drop, refl, sym, ap, ◌∙◌, arith, rules}
use Rattle.std.specs.Prelude.{ℤ, ◌<ℤ◌, ◌≤ℤ◌, ◌&&◌, int_lt, unsigned_abs, map, not, replicate, IsTrue, IfErr}
use Rattle.std.specs.List.{find, range_with_len}
use Rattle.std.proofs.lemmas.Int.{ints}
use Rattle.std.proofs.lemmas.Bool.{cases_lt, leb-false, leb-true, le-leb, lt-leb, and_parts, not-true, not-false}
use Rattle.std.proofs.lemmas.List.{get_or-replicate}
use Rattle.std.proofs.lemmas.List.FromFn.{get_or-map-range_with_len}
use Rattle.std.proofs.Math.Nat.{mul-le-mul_left}
use Rattle.byteorder.specs.Endian.{big_number}
use Rattle.cap_bytes.specs.Number.{number_at}
use Rattle.jc_decode.specs.declared.layout.Operand.{Operand}
use Rattle.jc_decode.specs.declared.layout.Operand.TheVariants.{U1, DupWords, SwapWords, ArrayType, TestedType}
use Rattle.jc_decode.specs.declared.layout.Cases.{Cases}
use Rattle.jc_decode.specs.declared.layout.Cases.TheVariants.{Range, Pairs}
use Rattle.jc_decode.specs.declared.layout.Cases.TheVariants.{Absent as NoCases}
use Rattle.jc_decode.specs.declared.layout.Layout.{Layout}
use Rattle.jc_decode.specs.declared.layout.Opcode.{Opcode}
use Rattle.jc_decode.specs.declared.layout.Opcode.TheVariants.{Instruction, Reserved, Unused}
use Rattle.jc_decode.specs.declared.insn.CodeEnd.{CodeEnd}
use Rattle.jc_decode.specs.declared.insn.CodeEnd.TheVariants.{Cut, BadOperand, NoOpcode, OutOfScope}
use Rattle.jc_decode.specs.declared.insn.Insn.{Insn}
use Rattle.jc_decode.specs.Layout.{Span, operand_width, total_width, layout_of, layout_from}
use Rattle.jc_decode.specs.Layout.{opcode, is_in_span, spans, is_out_of_scope, opcode_in_span}
use Rattle.jc_decode.specs.Decoding.{◌>>=◌, or_cut, within_bytes, bad_byte, bad_operand, operand_number}
use Rattle.jc_decode.specs.Decoding.{value, allows, operand_at, key_at, rises}
use Rattle.cap_bytes.specs.Bytes.{AreBytes}
use Rattle.jc_decode.specs.Decoding.{keys_rise, pair_width, pairs_end, range_end, range_count, end_of_cases, table_end, decoded}
use Rattle.jc_decode.specs.Refusal.{HasOpcode, HasOperands, IsFirstFall, RefusesBytes, nothing_there}
use Rattle.jc_decode.specs.Refusal.{left_out, unused, operands_cut, forbidden, bounds_turned}
use Rattle.jc_decode.specs.Refusal.{range_cut, pairs_cut, key_falls}
use Rattle.jc_decode.proofs.Decoded.{reached-ok, reached-within, or_cut-ok}
use Rattle.jc_decode.proofs.Ranges.{number_of-fits}
use Rattle.jc_decode.proofs.Windows.{number_at-reached}

-- ---- steps that fail

err-same : {A : Type 0} (d e : CodeEnd) (r : Result A CodeEnd) → r ≡ Err d → r ≡ Err e → d ≡ e
err-same d e r h k = cc

-- a chain fails at its first step, or after it
from_failed : {A B C : Type 0} (r : Result A CodeEnd) (f : A → Result B CodeEnd) (e : CodeEnd)
    → (r >>= f) ≡ Err e → (r ≡ Err e → C) → ((x : A) → r ≡ Ok x → f x ≡ Err e → C) → C
from_failed x f e h first farther = grind (arith, err-same)

or_cut-failed : {A : Type 0} (o : Option A) (e : CodeEnd) → or_cut o ≡ Err e → (o ≡ None) × (Cut ≡ e)
or_cut-failed x e h = grind (arith)

reached-failed : (xs : List ℕ) (end : ℕ) (e : CodeEnd) → within_bytes xs end ≡ Err e → (length xs < end) × (Cut ≡ e)
reached-failed xs end e h = by_test (nat_le end (length xs)) refl h
  where
    by_test : (b : Bool) → nat_le end (length xs) ≡ b → cond b (Ok end) (Err Cut) ≡ Err e → (length xs < end) × (Cut ≡ e)
    by_test true is h = absurd (cc)
    by_test false is h = (leb-false end (length xs) is, cc)

reached-past : (xs : List ℕ) (end : ℕ) → length xs < end → within_bytes xs end ≡ Err Cut
reached-past xs end h = rw (lt-leb end (length xs) h) refl

-- ---- bytes that are there

-- where no number is the bytes end before it
number_at-none : (w at : ℕ) (xs : List ℕ) → number_at w at xs ≡ None → length xs < at + w
number_at-none w at xs h = by_test (nat_le (at + w) (length xs)) refl h
  where
    by_test : (b : Bool) → nat_le (at + w) (length xs) ≡ b → cond b (Some (big_number w (drop at xs))) None ≡ None → length xs < at + w
    by_test true is h = absurd (cc)
    by_test false is h = leb-false (at + w) (length xs) is

-- ---- opcodes

-- of all opcodes: those from 185 to 253 alone are unused, and after the first operand nothing is forbidden
abbrev is_unused : Opcode → Bool
is_unused (Instruction l) = false
is_unused Reserved = false
is_unused Unused = true

abbrev allows_all : Operand → Bool
allows_all DupWords = false
allows_all SwapWords = false
allows_all ArrayType = false
allows_all TestedType = false
allows_all _ = true

-- high stands where a table of offsets begins
abbrev has_high : Cases → Operand → Bool
has_high Range z = nat_le 1 (operand_width z)
has_high _ z = true

abbrev is_plain : Result Layout CodeEnd → Bool
is_plain (Ok l) = allows_all l.y && (allows_all l.z && has_high l.cases l.z)
is_plain (Err e) = true

unused-all : map (λ op. is_unused (opcode op)) (range_with_len 0 256) ≡ map (λ op. nat_le 185 op && nat_le op 253) (range_with_len 0 256)
unfolding opcode
unused-all = refl

plain-all : map (λ op. is_plain (layout_of op)) (range_with_len 0 256) ≡ replicate 256 true
unfolding layout_of opcode
plain-all = refl

unused-at : (op : ℕ) → op < 256 → is_unused (opcode op) ≡ (nat_le 185 op && nat_le op 253)
unused-at op h =
    sym (get_or-map-range_with_len (λ (n : ℕ). is_unused (opcode n)) 0 256 op op false h (omega arith))
    ∙ ap (λ (bs : List Bool). get_or bs op false) unused-all
    ∙ get_or-map-range_with_len (λ (n : ℕ). nat_le 185 n && nat_le n 253) 0 256 op op false h (omega arith)

plain-at : (op : ℕ) → op < 256 → is_plain (layout_of op) ≡ true
plain-at op h =
    sym (get_or-map-range_with_len (λ (n : ℕ). is_plain (layout_of n)) 0 256 op op false h (omega arith))
    ∙ ap (λ (bs : List Bool). get_or bs op false) plain-all ∙ get_or-replicate 256 op true false h

-- an opcode that stands in the code is a byte
pub op-fits : (xs : List ℕ) (at op : ℕ) → AreBytes xs → number_at 1 at xs ≡ Some op → op < 256
op-fits xs at op bytes h = number_of-fits U1 xs at op bytes h

is-unused : (o : Opcode) → is_unused o ≡ true → o ≡ Unused
is-unused x h = grind (arith)

layout_of-unused : (op : ℕ) → 185 ≤ op → op ≤ 253 → layout_of op ≡ Err (NoOpcode op)
unfolding layout_of
layout_of-unused op low high =
    grind (arith, nat_le 185 op && nat_le op 253, le-leb 185 op low, le-leb op 253 high, unused-at op (omega arith), is-unused)

layout_of-left_out : (op : ℕ) → is_out_of_scope op ≡ true → layout_of op ≡ Err (OutOfScope op)
unfolding layout_of opcode
layout_of-left_out op h = rw h refl

never-reserved : (o : Option Span) → opcode_in_span o ≡ Reserved → ⊥
never-reserved x h = grind (arith)

reserved-left_out : (op : ℕ) → opcode op ≡ Reserved → is_out_of_scope op ≡ true
unfolding opcode
reserved-left_out op h = by_test (is_out_of_scope op) h
  where
    by_test : (b : Bool) → cond b Reserved (opcode_in_span (find (is_in_span op) spans)) ≡ Reserved → b ≡ true
    by_test true h = refl
    by_test false h = absurd (never-reserved _ h)

-- an opcode that has no operands is left out or unused
no-layout : (xs : List ℕ) (at op : ℕ) (e : CodeEnd) → AreBytes xs → number_at 1 at xs ≡ Some op → layout_of op ≡ Err e → RefusesBytes xs at e
unfolding layout_of
no-layout xs at op e bytes there h = by_opcode (opcode op) refl h
  where
    by_opcode : (o : Opcode) → opcode op ≡ o → layout_from op o ≡ Err e → RefusesBytes xs at e
    by_opcode (Instruction l) is h = absurd (cc)
    by_opcode Reserved is h =
        let out : IsTrue (is_out_of_scope op) = rw (reserved-left_out op is) refl in
        subst (RefusesBytes xs at) (err-same (OutOfScope op) e _ refl h) (left_out op there out)
    by_opcode Unused is h =
        let inside = and_parts (nat_le 185 op) (nat_le op 253) (sym (unused-at op (op-fits xs at op bytes there)) ∙ ap is_unused is) in
        subst (RefusesBytes xs at) (err-same (NoOpcode op) e _ refl h) (unused op there (leb-true 185 op inside.0) (leb-true op 253 inside.1))

-- ---- operands

-- what may be forbidden is one byte
forbidden-byte : (o : Operand) (xs : List ℕ) (at n : ℕ) → operand_number o xs at ≡ Some n → allows o n ≡ false → number_at 1 at xs ≡ Some n
forbidden-byte x xs at n h refused = grind (arith)

-- an operand whose bytes are there fails where it is forbidden
record Forbidden (o : Operand) (xs : List ℕ) (at : ℕ) (e : CodeEnd) : Type 0 where
  byte : ℕ
  there : operand_number o xs at ≡ Some byte
  not_allowed : allows o byte ≡ false
  is : BadOperand byte ≡ e

operand_at-failed : (o : Operand) (xs : List ℕ) (at : ℕ) (e : CodeEnd) → at + operand_width o ≤ length xs → operand_at o xs at ≡ Err e
    → Forbidden o xs at e
operand_at-failed o xs at e inside h = by_number (operand_number o xs at) refl h
  where
    by_test : (n : ℕ) (b : Bool) → operand_number o xs at ≡ Some n → allows o n ≡ b → cond b (Ok (value o n)) (Err (BadOperand n)) ≡ Err e
        → Forbidden o xs at e
    by_test n true there is h = absurd (cc)
    by_test n false there is h = record { byte = n; there = there; not_allowed = is; is = cc }

    by_number : (m : Option ℕ) → operand_number o xs at ≡ m → (or_cut m >>= (λ n. cond (allows o n) (Ok (value o n)) (Err (BadOperand n))))
        ≡ Err e → Forbidden o xs at e
    by_number x none h = grind (arith, number_at-none)

never-failed : (o : Operand) (xs : List ℕ) (at : ℕ) (e : CodeEnd) → at + operand_width o ≤ length xs → allows_all o ≡ true
    → operand_at o xs at ≡ Err e → ⊥
never-failed o xs at e inside all h = grind (arith, operand_at-failed)

-- ---- tables

byte-there : (xs : List ℕ) (at : ℕ) → at + 1 ≤ length xs → (b : ℕ) × (number_at 1 at xs ≡ Some b) × (bad_operand xs at ≡ BadOperand b)
byte-there xs at h = let e = number_at-reached 1 at xs h in (big_number 1 (drop at xs), e, ap bad_byte e)

less-test : (a b : ℤ) → a <ℤ b → int_lt a b ≡ true
less-test a b h = grind (arith, ints)

most-test : (a b : ℤ) → a ≤ℤ b → int_lt b a ≡ false
most-test a b h = grind (arith, ints)

test-less : (a b : ℤ) → int_lt a b ≡ true → a <ℤ b
test-less a b h = record { lt = search (rules, h) }

test-most : (a b : ℤ) → int_lt b a ≡ false → a ≤ℤ b
test-most a b h = grind (arith, ints)

-- what is found first in a range of numbers
record IsFound (p : ℕ → Bool) (from count n : ℕ) : Type 0 where
  low : from ≤ n
  high : n < from + count
  here : p n ≡ true
  before : (k : ℕ) → from ≤ k → k < n → p k ≡ false

find-found : (p : ℕ → Bool) (from count n : ℕ) → find p (range_with_len from count) ≡ Some n → IsFound p from count n
find-found p from zero n h = absurd (cc)
find-found p from (suc count) n h = by_first (p from) refl h (find-found p (from + 1) count n)
  where
    by_place : p from ≡ false → IsFound p (from + 1) count n → (k : ℕ) → from ≤ k → k < n → p k ≡ false
    by_place e f k low high = elim (cases_lt from k) [
      | inl later ↦ f.before k (omega arith) high
      | inr here ↦ let same : k ≡ from = omega arith in rw same e
    ]

    by_first : (b : Bool) → p from ≡ b → cond b (Some from) (find p (range_with_len (from + 1) count)) ≡ Some n
        → (find p (range_with_len (from + 1) count) ≡ Some n → IsFound p (from + 1) count n) → IsFound p from (suc count) n
    by_first x e h rest = grind (arith)

found-find : (p : ℕ → Bool) (from count n : ℕ) → IsFound p from count n → find p (range_with_len from count) ≡ Some n
found-find p from zero n f = absurd (omega (arith, f.low, f.high))
found-find p from (suc count) n f = elim (cases_lt from n) [
  | inl later ↦
      let passed : p from ≡ false = f.before from (omega arith) later in
      let rest = found-find p (from + 1) count n
      (record { low = omega arith; high = omega (arith, f.high); here = f.here; before = λ k low high. f.before k (omega arith) high }) in
      rw (passed, rest) refl
  | inr here ↦ let same : n ≡ from = omega (arith, f.low) in let yes : p from ≡ true = ap p (sym same) ∙ f.here in rw yes (ap Some (sym same))
]

-- the first key that falls is the one that is found
FirstFall-found : (key : Operand) (xs : List ℕ) (t count n : ℕ) → find (λ k. not (rises key xs t k)) (range_with_len 1 (count - 1)) ≡ Some n
    → IsFirstFall key xs t count n
FirstFall-found key xs t count n h = grind (arith, find-found, test-most, not-true, test-less, not-false)

found-FirstFall : (key : Operand) (xs : List ℕ) (t count n : ℕ) → IsFirstFall key xs t count n
    → find (λ k. not (rises key xs t k)) (range_with_len 1 (count - 1)) ≡ Some n
found-FirstFall key xs t count n f =
    found-find (λ k. not (rises key xs t k)) 1 (count - 1) n (record {
      low = f.after;
      high = omega (arith, f.after, f.inside);
      here = ap not (most-test (key_at key xs t n) (key_at key xs t (n - 1)) f.falls);
      before = λ k low high. ap not (less-test (key_at key xs t (k - 1)) (key_at key xs t k) (f.rises k low high));
    })

pair-there : (xs : List ℕ) (key : Operand) (t count n : ℕ) → n < count → t + pair_width key * count ≤ length xs
    → t + pair_width key * n + 1 ≤ length xs
pair-there xs key t count n h inside = grind (arith, mul-le-mul_left)

-- ---- the whole

-- after the operands an instruction fails as its table does
range-failed : (xs : List ℕ) (at t : ℕ) (l : Layout) (y z : ℤ) (e : CodeEnd) → HasOperands xs at l y z → l.cases ≡ Range
    → nat_le 1 (operand_width l.z) ≡ true
    → t ≡ at + 1 + total_width l → range_end l.z xs t y z ≡ Err e → RefusesBytes xs at e
range-failed xs at t l y z e has is high t_is h = by_order (int_lt z y) refl h
  where
    by_order : (b : Bool) → int_lt z y ≡ b → cond b (Err (bad_operand xs (t - operand_width l.z))) (within_bytes xs (t + 2 * range_count y z))
        ≡ Err e → RefusesBytes xs at e
    by_order true turned h =
        let place : t - operand_width l.z ≡ at + 1 + operand_width l.x + operand_width l.y = omega (arith, t_is) in
        let there = byte-there xs (at + 1 + operand_width l.x + operand_width l.y) (omega (arith, has.reaches, leb-true 1 (operand_width l.z) high)) in
        let named : BadOperand there.0 ≡ e = sym there.2 ∙ (ap (bad_operand xs) (sym place) ∙ err-same _ e _ refl h) in
        subst (RefusesBytes xs at) named (bounds_turned l y z there.0 has is (test-less z y turned) there.1)
    by_order false order h =
        let cut = reached-failed xs (t + 2 * range_count y z) e h in
        subst (RefusesBytes xs at) cut.1 (range_cut l y z has is (test-most y z order) (omega (arith, t_is, cut.0)))

pairs-failed : (xs : List ℕ) (at : ℕ) (l : Layout) (key : Operand) (y z : ℤ) (e : CodeEnd) → HasOperands xs at l y z → l.cases ≡ Pairs key
    → pairs_end key xs (at + 1 + total_width l) (unsigned_abs y) ≡ Err e → RefusesBytes xs at e
pairs-failed xs at l key y z e has is h =
    from_failed (within_bytes xs (at + 1 + total_width l + pair_width key * unsigned_abs y)) _ e h
    (λ far. let cut = reached-failed xs _ e far in subst (RefusesBytes xs at) cut.1 (pairs_cut l key y z has is cut.0))
    (λ end end_is h1.
    let far = reached-ok xs _ end end_is in
    by_find end (omega (arith, far.0, far.1)) (find (λ n. not (rises key xs (at + 1 + total_width l) n)) (range_with_len 1 (unsigned_abs y - 1))) refl h1)
  where
    by_find : (end : ℕ) → at + 1 + total_width l + pair_width key * unsigned_abs y ≤ length xs → (o : Option ℕ)
        → find (λ n. not (rises key xs (at + 1 + total_width l) n)) (range_with_len 1 (unsigned_abs y - 1)) ≡ o
        → keys_rise key xs (at + 1 + total_width l) end o ≡ Err e → RefusesBytes xs at e
    by_find end inside None is_none h = absurd (cc)
    by_find end inside (Some n) is_found h =
        let fall = FirstFall-found key xs (at + 1 + total_width l) (unsigned_abs y) n is_found in
        let there = byte-there xs (at + 1 + total_width l + pair_width key * n)
        (pair-there xs key (at + 1 + total_width l) (unsigned_abs y) n fall.inside inside) in
        let named : BadOperand there.0 ≡ e = sym there.2 ∙ err-same _ e _ refl h in
        subst (RefusesBytes xs at) named (key_falls l key y z n there.0 has is inside fall there.1)

table-failed : (xs : List ℕ) (at : ℕ) (l : Layout) (c : Cases) (y z : ℤ) (e : CodeEnd) → HasOperands xs at l y z → l.cases ≡ c
    → has_high c l.z ≡ true
    → end_of_cases c l.z xs (at + 1 + total_width l) y z ≡ Err e → RefusesBytes xs at e
table-failed xs at l NoCases y z e has is high h = absurd (cc)
table-failed xs at l Range y z e has is high h = range-failed xs at _ l y z e has is high refl h
table-failed xs at l (Pairs key) y z e has is high h = pairs-failed xs at l key y z e has is h

-- a length in place of an end is no failure
from_end : {A B : Type 0} (r : Result A CodeEnd) (f : A → B) (e : CodeEnd) → (r >>= (λ x. Ok (f x))) ≡ Err e → r ≡ Err e
from_end x f e h = grind (arith, err-same)

-- where none is decoded it is refused so
pub decoded-RefusesBytes : (xs : List ℕ) (at : ℕ) (e : CodeEnd) → AreBytes xs → decoded xs at ≡ Err e → RefusesBytes xs at e
unfolding decoded
decoded-RefusesBytes xs at e bytes h =
    from_failed (or_cut (number_at 1 at xs)) _ e h
    (λ none.
    let cut = or_cut-failed (number_at 1 at xs) e none in
    let past = number_at-none 1 at xs cut.0 in
    subst (RefusesBytes xs at) cut.1 (nothing_there (omega (arith, past))))
    (λ op op_is h1.
    let there = or_cut-ok _ op op_is in
    from_failed (layout_of op) _ e h1
    (λ none. no-layout xs at op e bytes there none)
    (λ l l_is h2.
    let begun : HasOpcode xs at l = record { op = op; opcode = there; layout = l_is } in
    from_failed (within_bytes xs (at + 1 + total_width l)) _ e h2
    (λ far. let cut = reached-failed xs _ e far in subst (RefusesBytes xs at) cut.1 (operands_cut l begun cut.0))
    (λ table table_is h3.
    let place = reached-ok xs _ table table_is in
    let inside : at + 1 + total_width l ≤ length xs = omega (arith, place.0, place.1) in
    let plain : is_plain (Ok l) ≡ true = ap is_plain (sym l_is) ∙ plain-at op (op-fits xs at op bytes there) in
    let second = and_parts (allows_all l.y) (allows_all l.z && has_high l.cases l.z) plain in
    let third = and_parts (allows_all l.z) (has_high l.cases l.z) second.1 in
    from_failed (operand_at l.x xs (at + 1)) _ e h3
    (λ bad.
    let f = operand_at-failed l.x xs (at + 1) e (omega (arith, inside)) bad in
    subst (RefusesBytes xs at) f.is (forbidden l f.byte begun inside (forbidden-byte l.x xs (at + 1) f.byte f.there f.not_allowed) f.not_allowed))
    (λ x x_is h4. from_failed (operand_at l.y xs (at + 1 + operand_width l.x)) _ e h4
    (λ bad. absurd (never-failed l.y xs _ e (omega (arith, inside)) second.0 bad))
    (λ y y_is h5. from_failed (operand_at l.z xs (at + 1 + operand_width l.x + operand_width l.y)) _ e h5
    (λ bad. absurd (never-failed l.z xs _ e (omega (arith, inside)) third.0 bad))
    (λ z z_is h6.
    let at_table : table_end l xs (at + 1 + total_width l) y z ≡ Err e = ap (λ (t : ℕ). table_end l xs t y z) (sym place.0)
    ∙ from_end (table_end l xs table y z) _ e h6 in
    table-failed xs at l l.cases y z e (record { begun = begun; reaches = inside; first = x; first_is = x_is; second_is = y_is; third_is = z_is }) refl
    third.1 at_table))))))

-- ---- the other way round

-- after the operands nothing but the table is asked
decoded-table : (xs : List ℕ) (at : ℕ) (l : Layout) (y z : ℤ) (e : CodeEnd) → HasOperands xs at l y z
    → table_end l xs (at + 1 + total_width l) y z ≡ Err e → decoded xs at ≡ Err e
unfolding decoded
decoded-table xs at l y z e has h = grind (arith, reached-within)

bad-byte-is : (xs : List ℕ) (at b : ℕ) → number_at 1 at xs ≡ Some b → bad_operand xs at ≡ BadOperand b
bad-byte-is xs at b h = ap bad_byte h

range-end-turned : (bound : Operand) (xs : List ℕ) (t : ℕ) (low high : ℤ) (b : ℕ) → high <ℤ low → number_at 1 (t - operand_width bound) xs
    ≡ Some b → range_end bound xs t low high ≡ Err (BadOperand b)
range-end-turned bound xs t low high b turned there = grind (arith, less-test, bad-byte-is)

-- what is refused so is not decoded, for that reason
pub RefusesBytes-decoded : (xs : List ℕ) (at : ℕ) (e : CodeEnd) → RefusesBytes xs at e → decoded xs at ≡ Err e
unfolding decoded
RefusesBytes-decoded xs at _ (nothing_there past) = grind (arith, lt-leb, length)
RefusesBytes-decoded xs at _ (left_out op there out) = grind (arith, layout_of-left_out)
RefusesBytes-decoded xs at _ (unused op there low high) = rw (there, layout_of-unused op low high) refl
RefusesBytes-decoded xs at _ (operands_cut l begun far) = rw (begun.opcode, begun.layout, reached-past xs (at + 1 + total_width l) far) refl
RefusesBytes-decoded xs at _ (forbidden l b begun inside there refused) = grind (arith, reached-within)
RefusesBytes-decoded xs at _ (bounds_turned l low high b has is turned there) =
    let place : at + 1 + operand_width l.x + operand_width l.y ≡ at + 1 + total_width l - operand_width l.z = omega arith in
    let named : number_at 1 (at + 1 + total_width l - operand_width l.z) xs ≡ Some b = ap (λ (p : ℕ). number_at 1 p xs) (sym place) ∙ there in
    decoded-table xs at l low high (BadOperand b) has (rw is (range-end-turned l.z xs (at + 1 + total_width l) low high b turned named))
RefusesBytes-decoded xs at _ (range_cut l low high has is order far) = grind (arith, decoded-table, most-test, reached-past)
RefusesBytes-decoded xs at _ (pairs_cut l key count z has is far) = grind (arith, decoded-table, reached-past)
RefusesBytes-decoded xs at _ (key_falls l key count z n b has is inside fall there) =
    decoded-table xs at l count z (BadOperand b) has (rw is (grind (arith, reached-within, found-FirstFall, bad-byte-is)))

pub refused-answer : (xs : List ℕ) (at : ℕ) (r : Result Insn CodeEnd) → AreBytes xs → r ≡ decoded xs at → IfErr r (RefusesBytes xs at)
refused-answer xs at z bytes h = grind (arith, decoded-RefusesBytes)
