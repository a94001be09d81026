-- A search for the only method that an interface describes under a token.
use Rattle.std.proofs.Common.{◌≡◌, ℕ, suc, ◌+◌, ◌-◌, ◌<◌, ◌≤◌, Bool, true, false, cond, List, [], ◌∷◌, ◌++◌, refl, sym}
use Rattle.std.proofs.Common.{◌∙◌, ap, arith, Option, Some, None, slice_get, filter, subst, zero, length}
use Rattle.std.specs.Prelude.{IfSome}
use Rattle.std.proofs.lemmas.Bool.{ne_eqb}
use Rattle.std.specs.Option.{option_to_list}
use Rattle.std.specs.List.{range_with_len}
use Rattle.jc_base.specs.declared.record.MethodRec.{MethodRec}
use Rattle.jc_base.specs.declared.method_bounds.MethodBounds.{MethodBounds}
use Rattle.jc_base.specs.ByClass.{AreBounds}
use Rattle.jc_ops.specs.Resolve.{only, is_described, passes_test, described}

-- what is found up to n, with what is found from n on, is what is found in all
abbrev pub Finds : (ℕ → Bool) → ℕ → Option ℕ → ℕ → Type 0
Finds p len found n = only (option_to_list found ++ filter p (range_with_len n (len - n))) ≡ only (filter p (range_with_len 0 len))

module _ (p : ℕ → Bool) (len n : ℕ) where
  step : n < len → filter p (range_with_len n (len - n)) ≡ cond (p n) (n ∷ filter p (range_with_len (n + 1) (len - (n + 1))))
      (filter p (range_with_len (n + 1) (len - (n + 1))))
  step h = let e : len - n ≡ suc (len - (n + 1)) = omega arith in ap (λ k. filter p (range_with_len n k)) e

  pub Finds-skip : (found : Option ℕ) → n < len → p n ≡ false → Finds p len found n → Finds p len found (n + 1)
  Finds-skip found h e f =
      ap (λ xs. only (option_to_list found ++ xs))
      (sym (step h ∙ ap (λ b. cond b (n ∷ filter p (range_with_len (n + 1) (len - (n + 1)))) (filter p (range_with_len (n + 1) (len - (n + 1))))) e))
      ∙ f

  pub Finds-take : n < len → p n ≡ true → Finds p len None n → Finds p len (Some n) (n + 1)
  Finds-take h e f =
      ap only
      (sym (step h ∙ ap (λ b. cond b (n ∷ filter p (range_with_len (n + 1) (len - (n + 1)))) (filter p (range_with_len (n + 1) (len - (n + 1))))) e))
      ∙ f

  pub Finds-two : (m : ℕ) → n < len → p n ≡ true → Finds p len (Some m) n → None ≡ only (filter p (range_with_len 0 len))
  Finds-two m h e f =
      ap (λ xs. only (m ∷ xs))
      (sym (step h ∙ ap (λ b. cond b (n ∷ filter p (range_with_len (n + 1) (len - (n + 1)))) (filter p (range_with_len (n + 1) (len - (n + 1))))) e))
      ∙ f

  pub Finds-end : (found : Option ℕ) → len ≤ n → Finds p len found n → found ≡ only (filter p (range_with_len 0 len))
  Finds-end found h f =
      let e : len - n ≡ 0 = omega arith in
      only_one found ∙ ap (λ k. only (option_to_list found ++ filter p (range_with_len n k))) (sym e) ∙ f
    where
      only_one : (o : Option ℕ) → o ≡ only (option_to_list o ++ [])
      only_one None = refl
      only_one (Some m) = refl

-- the test of a method that was read
pub passes-read : (methods : List MethodRec) (c token n : ℕ) (m : MethodRec) (b : Bool) → slice_get methods n ≡ Some m
    → b ≡ is_described c token m → passes_test (is_described c token) (slice_get methods n) ≡ b
passes-read methods c token n m b e r = ap (passes_test (is_described c token)) e ∙ sym r

-- ---- between the bounds of a class's methods

-- nothing is found before a number before which no number passes
begun : (p : ℕ → Bool) (len k : ℕ) → k ≤ len → ((n : ℕ) → n < k → p n ≡ false) → Finds p len None k
begun p len zero h none = grind (arith, filter)
begun p len (suc k) h none =
    let e : k + 1 ≡ suc k = omega arith in
    subst (Finds p len None) e
    (Finds-skip p len k None (omega arith) (none k (omega arith)) (begun p len k (omega arith) (λ n lt. none n (omega (arith, lt)))))

-- nothing more is found from a number on from which no number passes
ended : (p : ℕ → Bool) (len left k : ℕ) (found : Option ℕ) → left + k ≡ len → ((n : ℕ) → k ≤ n → p n ≡ false) → Finds p len found k
    → Finds p len found len
ended p len zero k found e none f = let here : k ≡ len = omega (arith, e) in subst (Finds p len found) here f
ended p len (suc left) k found e none f =
    let less : left + (k + 1) ≡ len = omega (arith, e) in
    ended p len left (k + 1) found less (λ n le. none n (omega (arith, le)))
    (Finds-skip p len k found (omega (arith, e)) (none k (omega arith)) f)

other_class : (c token : ℕ) (m : MethodRec) → (m.class ≡ c → ⊥) → is_described c token m ≡ false
other_class c token m ne = rw (ne_eqb m.class c ne) refl

-- a method whose number is not between the bounds is not described
module _ (methods : List MethodRec) (c token : ℕ) (b : MethodBounds) (are : AreBounds methods c b) where
  outside_by : (n : ℕ) (o : Option MethodRec) → slice_get methods n ≡ o → IfSome o (λ m. m.class ≡ c → (b.first ≤ n) × (n < b.end))
      → ((b.first ≤ n) × (n < b.end) → ⊥) → passes_test (is_described c token) o ≡ false
  outside_by n None e h out = refl
  outside_by n (Some m) e h out = other_class c token m (λ is. out (h is))

  outside : (n : ℕ) → ((b.first ≤ n) × (n < b.end) → ⊥) → passes_test (is_described c token) (slice_get methods n) ≡ false
  outside n out = outside_by n (slice_get methods n) refl (are.between n) out

  pub described_from : Finds (λ n. passes_test (is_described c token) (slice_get methods n)) (length methods) None b.first
  described_from =
      let rise : b.first ≤ b.end = are.rise in
      let inside : b.end ≤ length methods = are.inside in
      begun (λ n. passes_test (is_described c token) (slice_get methods n)) (length methods) b.first (omega arith)
      (λ n lt. outside n (λ two. let low : b.first ≤ n = two.0 in absurd (omega (arith, lt))))

  pub described_to : (found : Option ℕ) (n : ℕ) → b.end ≤ n → n ≤ length methods
      → Finds (λ n. passes_test (is_described c token) (slice_get methods n)) (length methods) found n
      → found ≡ only (described methods c token)
  unfolding described
  described_to found n end most f =
      let e : (length methods - n) + n ≡ length methods = omega arith in
      Finds-end (λ n. passes_test (is_described c token) (slice_get methods n)) (length methods) (length methods) found (omega arith)
      (ended (λ n. passes_test (is_described c token) (slice_get methods n)) (length methods) (length methods - n) n found e
      (λ k le. outside k (λ two. let high : k < b.end = two.1 in absurd (omega (arith, le)))) f)
