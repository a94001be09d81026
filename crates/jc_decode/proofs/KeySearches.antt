-- The case of a switch that has a key: its keys rise, so one that is found is the only one.
use Rattle.std.proofs.Common.{inl, inr, subst, ◌≡◌, ◌<◌, ◌≤◌, ◌+◌, ◌*◌, ◌-◌, ◌/◌, ℕ, zero, suc, Bool, true, false, Option, Some}
use Rattle.std.proofs.Common.{None, Result, Ok, Err, List, refl, sym, ap, ◌∙◌, arith}
use Rattle.std.specs.Prelude.{ℤ, pos, ◌+ℤ◌, ◌-ℤ◌, ◌<ℤ◌, ◌≤ℤ◌, ◌==◌, ◌⊎◌, FitsSigned, unsigned_abs, map, slice_get, option_map}
use Rattle.std.specs.List.{find, range_with_len}
use Rattle.std.specs.Int.{cast_signed, cast_unsigned, w32}
use Rattle.std.specs.Result.{result_unwrap_or}
use Rattle.std.proofs.Math.Facts.{sfits_widen}
use Rattle.std.proofs.lemmas.Int.{ints, to_z-of_z, fits_signed_from_abs}
use Rattle.std.proofs.lemmas.Bool.{cases_lt, eqb-true}
use Rattle.std.proofs.lemmas.Bool.Decides.{nat_tests}
use Rattle.jc_decode.specs.declared.layout.Operand.{Operand}
use Rattle.jc_decode.specs.declared.insn.CodeEnd.{CodeEnd}
use Rattle.jc_decode.specs.declared.insn.Case.{Case}
use Rattle.jc_decode.specs.declared.insn.Insn.{Insn}
use Rattle.jc_decode.specs.declared.layout.Layout.{Layout}
use Rattle.jc_decode.specs.declared.layout.Cases.TheVariants.{Pairs}
use Rattle.jc_decode.specs.Layout.{layout_of, total_width}
use Rattle.cap_bytes.specs.Bytes.{AreBytes}
use Rattle.jc_decode.specs.Decoding.{decoded, key_at, operand_at, pair_width, range_count, FitsOperand}
use Rattle.jc_decode.specs.Cases.{range_case, pair_case, HasTable}
use Rattle.jc_decode.specs.Keys.{has_key, PairsRise, IsPlaceOfKey}
use Rattle.jc_decode.proofs.Decoded.{Begins-decoded}
use Rattle.jc_decode.proofs.Tables.{cases-by, slice_get-map-range}
use Rattle.jc_decode.proofs.Ranges.{FitsOperand-read}
use Rattle.jc_decode.proofs.Rising.{KeysRise-Begins}

-- ---- keys are ints

fits-small : (n : ℕ) → n < 65536 → FitsSigned w32 (pos n)
fits-small n h = fits_signed_from_abs w32 (pos n) (omega (arith, h))

pub fits-wide : (o : Operand) (v : ℤ) → FitsOperand o v → FitsSigned w32 v
fits-wide x v h = grind (arith, fits-small, sfits_widen)

fits-read : (o : Operand) (r : Result ℤ CodeEnd) → ((v : ℤ) → r ≡ Ok v → FitsOperand o v) → FitsSigned w32 (result_unwrap_or r (pos 0))
fits-read o (Ok v) h = fits-wide o v (h v refl)
fits-read o (Err e) h = fits-small 0 (omega arith)

pub fits-key : (form : Operand) (xs : List ℕ) (table n : ℕ) → AreBytes xs → FitsSigned w32 (key_at form xs table n)
fits-key form xs table n bytes =
    fits-read form (operand_at form xs (table + pair_width form * n)) (λ v h. FitsOperand-read form xs (table + pair_width form * n) v bytes h)

-- ---- keys that rise

rises-on : (key_of : ℕ → ℤ) (count : ℕ) → ((n : ℕ) → n + 1 < count → key_of n <ℤ key_of (n + 1)) → (gap n : ℕ) → n + gap < count
    → key_of n ≤ℤ key_of (n + gap)
rises-on key_of count up zero n h = let e : n + 0 ≡ n = omega arith in rw e (omega (arith, ints))
rises-on key_of count up (suc gap) n h = grind (arith, suc, ints, rises-on key_of count up gap n (omega arith))

-- ---- what is known between the halves

pub record IsNarrowed (key_of : ℕ → ℤ) (count : ℕ) (key : ℤ) (low high : ℕ) : Type 0 where
  pub order : low ≤ high
  pub inside : high ≤ count
  pub below : (n : ℕ) → n < low → key_of n <ℤ key
  pub above : (n : ℕ) → high ≤ n → n < count → key <ℤ key_of n

module _ (key_of : ℕ → ℤ) (count : ℕ) (up : (n : ℕ) → n + 1 < count → key_of n <ℤ key_of (n + 1)) (key : ℤ) (low high middle : ℕ)
    (so_far : IsNarrowed key_of count key low high) (some : low < high) (half : middle ≡ low + (high - low) / 2) where
  within : (low ≤ middle) × (middle < high)
  within = (omega (arith, half, some), omega (arith, half, some))

  pub middle-inside : middle < count
  middle-inside = omega (arith, within.1, so_far.inside)

  pub narrowed-up : key_of middle <ℤ key → IsNarrowed key_of count key (middle + 1) high
  narrowed-up less = record {
    order = omega (arith, within.1);
    inside = so_far.inside;
    below = λ n h.
        let e : n + (middle - n) ≡ middle = omega (arith, h) in
        let le : key_of n ≤ℤ key_of middle = subst (λ (m : ℕ). key_of n ≤ℤ key_of m) e (rises-on key_of count up (middle - n) n (rw e middle-inside)) in
        omega (arith, ints, le, less);
    above = so_far.above;
  }

  pub narrowed-down : key <ℤ key_of middle → IsNarrowed key_of count key low middle
  narrowed-down more = record {
    order = within.0;
    inside = omega (arith, middle-inside);
    below = so_far.below;
    above = λ n le lt.
        let e : middle + (n - middle) ≡ n = omega (arith, le) in
        let more_yet : key_of middle ≤ℤ key_of n =
        subst (λ (m : ℕ). key_of middle ≤ℤ key_of m) e (rises-on key_of count up (n - middle) middle (rw e lt)) in
        omega (arith, ints, more, more_yet);
  }

-- ---- the first case with a key

find-nowhere : (p : Case → Bool) (f : ℕ → Case) (a k : ℕ) → ((n : ℕ) → a ≤ n → n < a + k → p (f n) ≡ false)
    → find p (map f (range_with_len a k)) ≡ None
find-nowhere p f a zero h = refl
find-nowhere p f a (suc k) h = rw (h a (omega arith) (omega arith)) (find-nowhere p f (a + 1) k (λ n lo hi. h n (omega (arith, lo)) (omega (arith, hi))))

find-here : (p : Case → Bool) (f : ℕ → Case) (a k m : ℕ) → a ≤ m → m < a + k → p (f m) ≡ true
    → ((n : ℕ) → a ≤ n → n < m → p (f n) ≡ false) → find p (map f (range_with_len a k)) ≡ Some (f m)
find-here p f a zero m lo hi hit before = absurd (omega (arith, lo, hi))
find-here p f a (suc k) m lo hi hit before = elim (cases_lt a m) [
  | inl later ↦ rw (before a (omega arith) later)
      (find-here p f (a + 1) k m (omega (arith, later)) (omega (arith, hi)) hit (λ n l h. before n (omega (arith, l)) h))
  | inr here ↦ let same : a ≡ m = omega (arith, lo, here) in rw (same, hit) refl
]

bits-apart : (a b : ℤ) → FitsSigned w32 a → FitsSigned w32 b → (a <ℤ b) ⊎ (b <ℤ a) → (cast_unsigned w32 a == cast_unsigned w32 b) ≡ false
bits-apart a b fits_a fits_b apart = by_test (cast_unsigned w32 a == cast_unsigned w32 b) refl
  where
    by_test : (t : Bool) → (cast_unsigned w32 a == cast_unsigned w32 b) ≡ t → t ≡ false
    by_test false e = refl
    by_test true e =
        let bits : cast_unsigned w32 a ≡ cast_unsigned w32 b = eqb-true (cast_unsigned w32 a) (cast_unsigned w32 b) e in
        let same : a ≡ b = sym (to_z-of_z w32 a fits_a) ∙ (ap (cast_signed w32) bits ∙ to_z-of_z w32 b fits_b) in
        elim apart [
          | inl less ↦ absurd (omega (arith, ints, less, same))
          | inr more ↦ absurd (omega (arith, ints, more, same))
        ]

module _ (f : ℕ → Case) (count : ℕ) (fits : (n : ℕ) → n < count → FitsSigned w32 (f n).key) (key : ℤ) (fits_key : FitsSigned w32 key) where
  pub no-case : ((n : ℕ) → n < count → ((f n).key <ℤ key) ⊎ (key <ℤ (f n).key)) → find (has_key key) (map f (range_with_len 0 count)) ≡ None
  no-case apart = grind (arith, find-nowhere, bits-apart)

  pub one-case : (m : ℕ) → m < count → (f m).key ≡ key → ((n : ℕ) → n < m → (f n).key <ℤ key)
      → find (has_key key) (map f (range_with_len 0 count)) ≡ Some (f m)
  one-case m inside same before =
      find-here (has_key key) f 0 count m (omega arith) (omega (arith, inside)) (grind (arith, nat_tests))
      (λ n lo hi. bits-apart (f n).key key (fits n (omega (arith, hi, inside))) fits_key (inl (before n hi)))

-- each key before one is lesser
pub before-key : (key_of : ℕ → ℤ) (count : ℕ) → ((n : ℕ) → n + 1 < count → key_of n <ℤ key_of (n + 1)) → (n m : ℕ) → n < m → m < count
    → key_of n <ℤ key_of m
before-key key_of count up n m less inside =
    let step = up n (omega (arith, less, inside)) in
    let e : n + 1 + (m - (n + 1)) ≡ m = omega (arith, less) in
    let rest : key_of (n + 1) ≤ℤ key_of m =
    subst (λ (k : ℕ). key_of (n + 1) ≤ℤ key_of k) e (rises-on key_of count up (m - (n + 1)) (n + 1) (rw e inside)) in
    omega (arith, ints, step, rest)

-- ---- a table of pairs

pairs-rise-at : (xs : List ℕ) (at : ℕ) (i : Insn) (l : Layout) (form : Operand) → decoded xs at ≡ Ok i → layout_of i.op ≡ Ok l
    → l.cases ≡ Pairs form → PairsRise form xs (at + 1 + total_width l) (unsigned_abs i.y)
pairs-rise-at xs at i l form is_decoded is_layout is_pairs n h =
    let f = pair_case xs (at + 1 + total_width l) form in
    let e = cases-by xs at i l (Pairs form) is_layout is_pairs in
    let here = ap (λ (cs : List Case). slice_get cs n) e ∙ slice_get-map-range f (unsigned_abs i.y) n (omega (arith, h)) in
    let after = ap (λ (cs : List Case). slice_get cs (n + 1)) e ∙ slice_get-map-range f (unsigned_abs i.y) (n + 1) h in
    KeysRise-Begins xs at i (Begins-decoded xs at i is_decoded) n (f n) (f (n + 1)) here after

pub pairs-rise : (xs : List ℕ) (at : ℕ) (i : Insn) (l : Layout) (form : Operand) (table count : ℕ) → decoded xs at ≡ Ok i → layout_of i.op ≡ Ok l
    → l.cases ≡ Pairs form → table ≡ at + 1 + total_width l → count ≡ unsigned_abs i.y → PairsRise form xs table count
pairs-rise xs at i l form table count is_decoded is_layout is_pairs place many = grind (arith, pairs-rise-at)

pub pair-found : (form : Operand) (xs : List ℕ) (table count : ℕ) (key : ℤ) (o : Option ℕ) → AreBytes xs → FitsSigned w32 key
    → PairsRise form xs table count → IsPlaceOfKey form xs table count key o
    → option_map (pair_case xs table form) o ≡ find (has_key key) (map (pair_case xs table form) (range_with_len 0 count))
pair-found form xs table count key (Some n) bytes fits up h =
    sym (one-case (pair_case xs table form) count (λ m lt. fits-key form xs table m bytes) key fits n h.0 h.1
    (λ m lt. subst (λ (k : ℤ). key_at form xs table m <ℤ k) h.1 (before-key (key_at form xs table) count up m n lt h.0)))
pair-found form xs table count key None bytes fits up h = grind (arith, no-case, fits-key)

-- ---- a table of the numbers from low to high

range-key : (low key : ℤ) → low ≤ℤ key → low +ℤ pos (unsigned_abs (key -ℤ low)) ≡ key
range-key low key le = grind (arith, ints)

range-within : (low high key : ℤ) → low ≤ℤ key → key ≤ℤ high → unsigned_abs (key -ℤ low) < range_count low high
range-within low high key le ge = grind (arith, ints)

range-fits : (low high : ℤ) (n : ℕ) → FitsSigned w32 low → FitsSigned w32 high → low ≤ℤ high → n < range_count low high → FitsSigned w32 (low +ℤ pos n)
range-fits low high n fits_low fits_high order h = grind (arith, ints)

-- a switch that is decoded has its table
pub has-table : (xs : List ℕ) (at : ℕ) (i : Insn) → decoded xs at ≡ Ok i → HasTable xs at i
has-table xs at i h = λ _. rw h refl

pub range-found : (xs : List ℕ) (table : ℕ) (low high key : ℤ) → FitsSigned w32 low → FitsSigned w32 high → FitsSigned w32 key → low ≤ℤ key → key ≤ℤ high
    → Some (range_case xs table low (unsigned_abs (key -ℤ low)))
    ≡ find (has_key key) (map (range_case xs table low) (range_with_len 0 (range_count low high)))
range-found xs table low high key fits_low fits_high fits le ge =
    sym (one-case (range_case xs table low) (range_count low high) (λ n h. range-fits low high n fits_low fits_high (grind (arith, ints)) h) key fits
    (unsigned_abs (key -ℤ low)) (range-within low high key le ge) (range-key low key le) (λ n h. grind (arith, ints)))

pub range-none : (xs : List ℕ) (table : ℕ) (low high key : ℤ) → FitsSigned w32 low → FitsSigned w32 high → FitsSigned w32 key → low ≤ℤ high
    → (key <ℤ low) ⊎ (high <ℤ key) → None ≡ find (has_key key) (map (range_case xs table low) (range_with_len 0 (range_count low high)))
range-none xs table low high key fits_low fits_high fits order outside = grind (arith, no-case, range-fits, ints)
