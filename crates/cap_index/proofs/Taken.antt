-- What is left of each package's lists, once those of some methods are taken.
use Rattle.std.proofs.Common.{◌≡◌, ℕ, zero, suc, ◌+◌, ◌<◌, Bool, true, false, List, [], ◌∷◌, length, take, drop, get_or, cond}
use Rattle.std.proofs.Common.{Option, Some, refl, sym, ap, ◌∙◌, arith}
use Rattle.std.specs.Prelude.{slice_get, slice_set, count_by, ◌==◌, ◌&&◌}
use Rattle.std.proofs.lemmas.Bool.{eqb-true, false≢true, eq-eqb}
use Rattle.std.proofs.lemmas.List.Sums.{count_by_more_no, count_by_more_yes}
use Rattle.std.proofs.lemmas.Option.{slice_get_within, get_or_from_slice_get}
use Rattle.jc_base.specs.declared.record.MethodRec.{MethodRec}
use Rattle.jc_base.specs.Linked.{list_at}
use Rattle.cap_index.specs.Indexes.{has_code, is_coded, index_after}
use Rattle.cap_index.specs.Taking.{list_taken, IsTakenFrom}

first-after : {A : Type 0} (xs : List A) (n : ℕ) → slice_get (drop n xs) 0 ≡ slice_get xs n
first-after [] zero = refl
first-after [] (suc n) = refl
first-after (x ∷ xs) zero = refl
first-after (x ∷ xs) (suc n) = first-after xs n

one-more-dropped : {A : Type 0} (xs : List A) (n : ℕ) → drop 1 (drop n xs) ≡ drop (n + 1) xs
one-more-dropped [] zero = refl
one-more-dropped [] (suc n) = grind (arith, suc)
one-more-dropped (x ∷ xs) zero = refl
one-more-dropped (x ∷ xs) (suc n) = grind (arith, suc, one-more-dropped xs n)

-- after n methods: of each package the lists of its other methods with code are left
pub record AreLeft (lists : List (List (List ℕ))) (ms : List MethodRec) (n : ℕ) (left : List (List (List ℕ))) : Type 0 where
  pub size : length left ≡ length lists
  pub each : (k : ℕ) → list_at left k ≡ drop (count_by (is_coded k) (take n ms)) (list_at lists k)

pub all-left : (lists : List (List (List ℕ))) (ms : List MethodRec) → AreLeft lists ms 0 lists
all-left lists ms = record { size = refl; each = λ k. refl }

pub taken-index : (lists left : List (List (List ℕ))) (ms : List MethodRec) (n : ℕ) (m : MethodRec) (index : Option (List ℕ))
    → AreLeft lists ms n left → index ≡ list_taken left m → index ≡ index_after lists (take n ms) m
unfolding index_after
taken-index lists left ms n m index are is = grind (arith, cond, first-after, take)

dropped-by : (asked : Bool) (ms : List MethodRec) (n : ℕ) (m : MethodRec) (k : ℕ) (xs : List (List ℕ)) → slice_get ms n ≡ Some m
    → is_coded k m ≡ asked
    → cond asked (drop 1 (drop (count_by (is_coded k) (take n ms)) xs)) (drop (count_by (is_coded k) (take n ms)) xs)
    ≡ drop (count_by (is_coded k) (take (n + 1) ms)) xs
dropped-by true ms n m k xs at asked =
    let here : is_coded k (get_or ms n m) ≡ true = ap (is_coded k) (get_or_from_slice_get ms n m m at) ∙ asked in
    one-more-dropped xs (count_by (is_coded k) (take n ms))
    ∙ ap (λ c. drop c xs) (sym (count_by_more_yes (is_coded k) ms n m (slice_get_within ms n m at) here))
dropped-by false ms n m k xs at asked =
    let here : is_coded k (get_or ms n m) ≡ false = ap (is_coded k) (get_or_from_slice_get ms n m m at) ∙ asked in
    ap (λ c. drop c xs) (sym (count_by_more_no (is_coded k) ms n m (slice_get_within ms n m at) here))

pub left-after : (lists left after : List (List (List ℕ))) (ms : List MethodRec) (n : ℕ) (m : MethodRec) (index : Option (List ℕ))
    → slice_get ms n ≡ Some m → AreLeft lists ms n left → IsTakenFrom left m index after → AreLeft lists ms (n + 1) after
left-after lists left after ms n m index at are t = record {
  size = t.size ∙ are.size;
  each = λ k.
      t.left k
      ∙ ap (λ xs. cond (is_coded k m) (drop 1 xs) xs) (are.each k)
      ∙ dropped-by (is_coded k m) ms n m k (list_at lists k) at refl;
}

-- ---- taking from the list of one package

set-here : (xss : List (List (List ℕ))) (n : ℕ) (xs : List (List ℕ)) → n < length xss → list_at (slice_set xss n xs) n ≡ xs
set-here [] n xs lt = absurd (omega (arith, lt))
set-here (ys ∷ yss) zero xs lt = refl
set-here (ys ∷ yss) (suc n) xs lt = set-here yss n xs (omega (arith, lt))

set-other : (xss : List (List (List ℕ))) (n k : ℕ) (xs : List (List ℕ)) → ¬ (n ≡ k) → list_at (slice_set xss n xs) k ≡ list_at xss k
set-other [] n k xs ne = refl
set-other (ys ∷ yss) zero zero xs ne = absurd (ne refl)
set-other (ys ∷ yss) zero (suc k) xs ne = refl
set-other (ys ∷ yss) (suc n) zero xs ne = refl
set-other (ys ∷ yss) (suc n) (suc k) xs ne = set-other yss n k xs (λ e. ne (ap suc e))

set-by : (same : Bool) (xss : List (List (List ℕ))) (n k : ℕ) (xs : List (List ℕ)) → n < length xss → (n == k) ≡ same
    → xs ≡ drop 1 (list_at xss n)
    → list_at (slice_set xss n xs) k ≡ cond (same && true) (drop 1 (list_at xss k)) (list_at xss k)
set-by x xss n k xs lt e is = grind (arith, eqb-true, drop, set-here, set-other, false≢true, eq-eqb)

-- a method with code has taken the first list of its package
pub taken-with : (xss : List (List (List ℕ))) (m : MethodRec) (xs : List (List ℕ)) (index : Option (List ℕ)) → m.package < length xss
    → has_code m ≡ true
    → index ≡ slice_get (list_at xss m.package) 0 → xs ≡ drop 1 (list_at xss m.package) → length (slice_set xss m.package xs) ≡ length xss
    → IsTakenFrom xss m index (slice_set xss m.package xs)
taken-with xss m xs index lt code is rest size = grind (arith, cond, set-by, drop)
