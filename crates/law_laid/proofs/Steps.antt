-- Where the steps of symbols stand in laid code, and the numbers of the steps that stand at its places.
use Rattle.std.proofs.Common.{◌≡◌, ℕ, zero, suc, ◌+◌, ◌-◌, ◌<◌, ◌≤◌, ◌==◌, Bool, true, false, if◌then◌else◌, List, []}
use Rattle.std.proofs.Common.{◌∷◌, length, map, get_or, Option, Some, None, option_map, slice_get, All, Contains, refl, sym, ◌∙◌, ap, subst, arith}
use Rattle.std.specs.Prelude.{nat_le, nat_lt}
use Rattle.std.proofs.lemmas.Bool.{eqb-true}
use Rattle.std.proofs.lemmas.Bool.Decides.{nat_tests}
use Rattle.std.proofs.lemmas.List.Elements.{Contains-get_or}
use Rattle.std.proofs.lemmas.Option.{slice_get-get_or, slice_get-map, slice_get_within}
use Rattle.jc_decode.specs.declared.insn.Placed.{Placed}
use Rattle.jc_decode.specs.Listing.{end_from}
use Rattle.jc_decode.specs.Standing.{StandsForStep, AreSteps}
use Rattle.jc_decode.specs.Symbols.{Step}
use Rattle.jc_decode.proofs.Elements.{Contains-slice_get}

-- ---- elements of lists

pub at-contains : {X : Type 0} (xs : List X) (x : X) (c : Contains xs x) → slice_get xs c.0 ≡ Some x
at-contains xs x c = slice_get-get_or xs c.0 x c.1 ∙ ap (λ y. Some y) c.2

pub all-contained : {X : Type 0} (P : X → Type 0) (xs : List X) → ((x : X) → Contains xs x → P x) → All P xs
all-contained P xs h k d lt = h (get_or xs k d) (Contains-get_or xs k d lt)

pub contains-map : {X Y : Type 0} (f : X → Y) (xs : List X) (x : X) → Contains xs x → Contains (map f xs) (f x)
contains-map f xs x c = Contains-slice_get (map f xs) c.0 (f x) (slice_get-map f xs c.0 ∙ ap (option_map f) (at-contains xs x c))

pub record Preimage {X Y : Type 0} (f : X → Y) (xs : List X) (y : Y) : Type 0 where
  pub of : X
  pub listed : Contains xs of
  pub is : y ≡ f of

pub preimage : {X Y : Type 0} (f : X → Y) (xs : List X) (y : Y) → Contains (map f xs) y → Preimage f xs y
preimage {X = X} f xs y c = by (slice_get xs c.0) refl (sym (slice_get-map f xs c.0) ∙ at-contains (map f xs) y c)
  where
    by : (o : Option X) → slice_get xs c.0 ≡ o → option_map f o ≡ Some y → Preimage f xs y
    by None e there = absurd (cc)
    by (Some x) e there = let is : y ≡ f x = cc in record { of = x; listed = Contains-slice_get xs c.0 x e; is = is }

-- ---- rising functions

module _ (f : ℕ → ℕ) (rises : (n : ℕ) → f n < f (suc n)) where
  pub rises-over : (a d : ℕ) → f a < f (a + suc d)
  rises-over a zero = subst (λ n. f a < f n) (omega arith) (rises a)
  rises-over a (suc d) = grind (arith, suc, rises-over a d)

  pub rises-from : (a b : ℕ) → a < b → f a < f b
  rises-from a b lt = subst (λ n. f a < f n) (omega (arith, lt)) (rises-over a (b - suc a))

  pub one-to-one : (a b : ℕ) → f a ≡ f b → a ≡ b
  one-to-one a b e = by (nat_lt a b) (nat_lt b a) refl refl
    where
      by : (x y : Bool) → nat_lt a b ≡ x → nat_lt b a ≡ y → a ≡ b
      by true y p q = let lt : a < b = grind (arith, nat_tests, p) in absurd (omega (arith, e, rises-from a b lt))
      by false true p q = let lt : b < a = grind (arith, nat_tests, q) in absurd (omega (arith, e, rises-from b a lt))
      by false false p q = grind (arith, nat_tests, p, q)

-- the greatest number up to k at which the function is q, or 0
abbrev pub number_of : (ℕ → ℕ) → ℕ → ℕ → ℕ
number_of f q zero = zero
number_of f q (suc k) = if f (suc k) == q then suc k else number_of f q k

below-next : (f : ℕ → ℕ) (n k : ℕ) → n ≤ suc k → (f (suc k) == f n) ≡ false → (c : Bool) → nat_le n k ≡ c → n ≤ k
below-next f n k le e x p = grind (arith, nat_tests, suc)

pub number-is : (f : ℕ → ℕ) → ((n k : ℕ) → f n ≡ f k → n ≡ k) → (n k : ℕ) → n ≤ k → number_of f (f n) k ≡ n
number-is f one n zero le = omega (arith, le)
number-is f one n (suc k) le = by (f (suc k) == f n) refl (λ l. number-is f one n k l)
  where
    by : (b : Bool) → (f (suc k) == f n) ≡ b → (n ≤ k → number_of f (f n) k ≡ n) → (if b then suc k else number_of f (f n) k) ≡ n
    by true e rest = one (suc k) n (eqb-true (f (suc k)) (f n) e)
    by false e rest = rest (below-next f n k le e (nat_le n k) refl)

-- ---- steps that are laid

-- step k of those from place n on is laid as an instruction of a list
pub record IsLaidAt (code : List ℕ) (place : ℕ → ℕ) (n : ℕ) (ps : List Placed) (k : ℕ) (s : Step) : Type 0 where
  pub placed : Placed
  pub listed : slice_get ps k ≡ Some placed
  pub begins : placed.place ≡ place (n + k)
  pub ends : placed.place + placed.insn.len ≡ place (n + suc k)
  pub is : StandsForStep code place s placed

module _ (code : List ℕ) (place : ℕ → ℕ) where
  pub step-at : (n : ℕ) (ss : List Step) (ps : List Placed) → AreSteps code place n ss ps → (k : ℕ) (s : Step) → slice_get ss k ≡ Some s
      → IsLaidAt code place n ps k s
  step-at n [] [] h k s e = absurd (omega (arith, slice_get_within [] k s e))
  step-at n [] (p ∷ ps) h k s e = absurd h
  step-at n (t ∷ ss) [] h k s e = absurd h
  step-at n (t ∷ ss) (p ∷ ps) h zero s e = grind (arith, suc)
  step-at n (t ∷ ss) (p ∷ ps) h (suc k) s e = grind (arith, suc, step-at (suc n) ss ps h.3 k s e)

  pub same-count : (n : ℕ) (ss : List Step) (ps : List Placed) → AreSteps code place n ss ps → length ss ≡ length ps
  same-count n [] [] h = refl
  same-count n [] (p ∷ ps) h = absurd h
  same-count n (s ∷ ss) [] h = absurd h
  same-count n (s ∷ ss) (p ∷ ps) h = ap suc (same-count (suc n) ss ps h.3)

  pub end-is : (n : ℕ) (ss : List Step) (ps : List Placed) → AreSteps code place n ss ps → end_from (place n) ps ≡ place (n + length ss)
  end-is n [] [] h = ap place (omega arith)
  end-is n [] (p ∷ ps) h = absurd h
  end-is n (s ∷ ss) [] h = absurd h
  end-is n (s ∷ ss) (p ∷ ps) h = grind (arith, suc, length, end-is (suc n) ss ps h.3)
