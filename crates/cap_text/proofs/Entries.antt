-- A word that writes an entry is split at its full stop.
use Rattle.std.proofs.Common.{◌≡◌, ◌≢◌, ℕ, ◌<◌, ◌^◌, Option, List, [], ◌∷◌, ◌++◌, length, zero, suc, Bor, ap, sym, refl, subst}
use Rattle.std.proofs.Common.{arith, drop}
use Rattle.std.specs.Prelude.{decimal, get_or, MatchOption}
use Rattle.std.specs.Char.{digit_value}
use Rattle.std.specs.Str.Parse.{AllDigits}
use Rattle.std.proofs.lemmas.Fmt.{decimal_is_IsNumeral}
use Rattle.std.proofs.lemmas.Str.Pattern.{IsSplitOnceResult, split_after}
use Rattle.cap_text.specs.declared.entry.Entry.{Entry}
use Rattle.cap_text.specs.Entry.{IsEntryWord}

-- no digit is a full stop
no_stop : (xs : List ℕ) → AllDigits 10 xs → (i : ℕ) → i < length xs → get_or xs i 0 ≢ 46
no_stop [] all i below = absurd (omega (arith, below))
no_stop (x ∷ xs) all zero below = λ is. let small = subst (λ c. digit_value c < 10) is all.0 in absurd (omega (arith, small))
no_stop (x ∷ xs) all (suc i) below = no_stop xs all.1 i (omega (arith, below))

-- what stands before and after the first full stop of an entry's word are its numbers
pub halves : (word : List ℕ) (e : Entry) (r : Option (Bor (List ℕ) × Bor (List ℕ))) → IsSplitOnceResult 46 word r → IsEntryWord word e
    → MatchOption r ⊥ (λ x. (x.0.now ≡ decimal e.class_no) × (x.1.now ≡ decimal e.method_no))
halves word e r is w =
    split_after 46 word (decimal e.class_no) (decimal e.method_no) r is (omega arith) w.writes
    (no_stop (decimal e.class_no) ((decimal_is_IsNumeral e.class_no (omega (arith, w.class_fits))).0.1))

-- a full stop is no digit
stop_is_none : (x : ℕ) → 46 ≡ x → digit_value x < 10 → ⊥
stop_is_none x is digit = let small = subst (λ c. digit_value c < 10) (sym is) digit in omega (arith, small)

-- what stands before the first full stop and after it
split_same : (xs us ys vs : List ℕ) → AllDigits 10 xs → AllDigits 10 us → xs ++ (46 ∷ ys) ≡ us ++ (46 ∷ vs) → (xs ≡ us) × (ys ≡ vs)
split_same [] [] ys vs all_xs all_us same = (refl, ap (drop 1) same)
split_same [] (u ∷ us) ys vs all_xs all_us same = absurd (stop_is_none u (ap (λ (l : List ℕ). get_or l 0 0) same) all_us.0)
split_same (x ∷ xs) [] ys vs all_xs all_us same = absurd (stop_is_none x (sym (ap (λ (l : List ℕ). get_or l 0 0) same)) all_xs.0)
split_same (x ∷ xs) (u ∷ us) ys vs all_xs all_us same = grind (arith, split_same xs us ys vs all_xs.1 all_us.1 (ap (drop 1) same), get_or)

-- two texts of a number, a full stop and a number are of the same numbers
pub entry_halves : (e f : Entry) → e.class_no < 2 ^ 16 → f.class_no < 2 ^ 16 → decimal e.class_no ++ (46 ∷ decimal e.method_no)
    ≡ decimal f.class_no ++ (46 ∷ decimal f.method_no)
    → (decimal e.class_no ≡ decimal f.class_no) × (decimal e.method_no ≡ decimal f.method_no)
entry_halves e f small less same =
    split_same (decimal e.class_no) (decimal f.class_no) (decimal e.method_no) (decimal f.method_no)
    ((decimal_is_IsNumeral e.class_no (omega (arith, small))).0.1) ((decimal_is_IsNumeral f.class_no (omega (arith, less))).0.1) same
