-- The nearest class that is on two chains.
use Rattle.std.proofs.Common.{◌≡◌, ℕ, ◌<◌, ◌≤◌, inl, inr, Bool, true, false, cond, [], ◌∷◌, length, Option, Some, None, refl, sym, ap}
use Rattle.std.proofs.Common.{subst, ◌∙◌, arith}
use Rattle.std.specs.Prelude.{find, unwrap_or}
use Rattle.std.proofs.lemmas.Bool.{false_from_ne_true, false≢true}
use Rattle.jc_base.specs.Class.{ClassTable, IsClass, AreClasses, IsNextOnChain, IsEndOfChain, chain, object}
use Rattle.jc_base.specs.Order.{is_on_chain, common}
use Rattle.jc_base.proofs.Climbs.{climb, chain-front, chain-not_empty, on_chain-here, on_chain-length, on_chain-object, on_alone, on_next, on_above}
use Rattle.jc_base.proofs.Climbs.{not_here-next}

-- ---- the first class on a chain that passes a test

pub first_on : ClassTable → (ℕ → Bool) → ℕ → Option ℕ
first_on t q c = find q (chain t c)

first-next : (t : ClassTable) (q : ℕ → Bool) (c p : ℕ) → IsNextOnChain t c p → first_on t q c ≡ cond (q c) (Some c) (first_on t q p)
unfolding first_on
first-next t q c p next = rw next.chain_is refl

first-alone : (t : ClassTable) (q : ℕ → Bool) (c : ℕ) → chain t c ≡ c ∷ [] → first_on t q c ≡ cond (q c) (Some c) None
unfolding first_on
first-alone t q c e = rw e refl

first-here : (t : ClassTable) (q : ℕ → Bool) (c : ℕ) → q c ≡ true → first_on t q c ≡ Some c
unfolding first_on
first-here t q c h = let f = chain-front t c in rw (f.1, h) refl

-- two tests that agree on a chain find the same class
first-same : (t : ClassTable) → AreClasses t → (q r : ℕ → Bool) (c : ℕ) → ((x : ℕ) → is_on_chain t x c ≡ true → q x ≡ r x)
    → first_on t q c ≡ first_on t r c
first-same t are q r = climb t are (λ c. ((x : ℕ) → is_on_chain t x c ≡ true → q x ≡ r x) → first_on t q c ≡ first_on t r c)
    (λ c top alone agree. rw (first-alone t q c alone, first-alone t r c alone, agree c (on_chain-here t c)) refl)
    (λ c p link next before agree.
    rw (first-next t q c p next, first-next t r c p next, agree c (on_chain-here t c), before (λ x on. agree x (on_above t x c p next on))) refl)

-- what is found: it passes the test, is on the chain, and each class of the chain that passes is on its chain
pub record IsFirstOn (t : ClassTable) (q : ℕ → Bool) (c n : ℕ) : Type 0 where
  pub passes : q n ≡ true
  pub on : is_on_chain t n c ≡ true
  pub before : (x : ℕ) → is_on_chain t x c ≡ true → q x ≡ true → is_on_chain t x n ≡ true

first_is-alone : (t : ClassTable) (q : ℕ → Bool) (c x : ℕ) (b : Bool) → chain t c ≡ c ∷ [] → q c ≡ b → is_on_chain t x c ≡ true
    → q x ≡ true → (n : ℕ) × (first_on t q c ≡ Some n) × IsFirstOn t q c n
first_is-alone t q c x x2 alone e on pass = grind (arith, first-here, on_chain-here, false≢true, on_alone)

first_is-next : (t : ClassTable) (q : ℕ → Bool) (c p x : ℕ) (b : Bool) → IsNextOnChain t c p → q c ≡ b → is_on_chain t x c ≡ true
    → q x ≡ true
    → (is_on_chain t x p ≡ true → (n : ℕ) × (first_on t q p ≡ Some n) × IsFirstOn t q p n) → (n : ℕ) × (first_on t q c ≡ Some n)
    × IsFirstOn t q c n
first_is-next t q c p x true next e on pass before = grind (arith, first-here, on_chain-here)
first_is-next t q c p x false next e on pass before =
    let up : is_on_chain t x p ≡ true = elim (on_next t x c p next on) [
      | inl here ↦ absurd (false≢true (sym e ∙ ap q here ∙ pass))
      | inr above ↦ above
    ] in
    let found = before up in (
      found.0,
      rw (first-next t q c p next, e) found.1,
      record {
        passes = found.2.passes;
        on = on_above t found.0 c p next found.2.on;
        before = λ y h k. elim (on_next t y c p next h) [
          | inl here ↦ absurd (false≢true (sym e ∙ ap q here ∙ k))
          | inr above ↦ found.2.before y above k
        ];
      },
    )

pub first_is : (t : ClassTable) → AreClasses t → (q : ℕ → Bool) (x c : ℕ) → is_on_chain t x c ≡ true → q x ≡ true → (n : ℕ)
    × (first_on t q c ≡ Some n) × IsFirstOn t q c n
first_is t are q x = climb t are (λ c. is_on_chain t x c ≡ true → q x ≡ true → (n : ℕ) × (first_on t q c ≡ Some n) × IsFirstOn t q c n)
    (λ c top alone on pass. first_is-alone t q c x (q c) alone refl on pass)
    (λ c p link next before on pass. first_is-next t q c p x (q c) next refl on pass (λ up. before up pass))

-- ---- the nearest common class

-- the class n is on both chains, and each class on both is on its chain
pub record IsNearest (t : ClassTable) (c d n : ℕ) : Type 0 where
  pub left : is_on_chain t n c ≡ true
  pub right : is_on_chain t n d ≡ true
  pub least : (x : ℕ) → is_on_chain t x c ≡ true → is_on_chain t x d ≡ true → is_on_chain t x n ≡ true

common-is : (t : ClassTable) (c d n : ℕ) → first_on t (λ x. is_on_chain t x d) c ≡ Some n → common t c d ≡ n
unfolding common first_on
common-is t c d n e = rw e refl

pub common-nearest : (t : ClassTable) → AreClasses t → (c d : ℕ) → IsClass t c → IsClass t d → IsNearest t c d (common t c d)
common-nearest t are c d c_is d_is =
    let found = first_is t are (λ x. is_on_chain t x d) (object t) c (on_chain-object t are c c_is) (on_chain-object t are d d_is) in
    subst (IsNearest t c d) (sym (common-is t c d found.0 found.1)) (record {
      left = found.2.on;
      right = found.2.passes;
      least = found.2.before;
    })

-- ---- the steps of the climb from both classes

pub meets_same : (t : ClassTable) (c : ℕ) → c ≡ common t c c
meets_same t c = sym (common-is t c c c (first-here t (λ x. is_on_chain t x c) c (on_chain-here t c)))

common-with : (t : ClassTable) (a b c d : ℕ) → first_on t (λ x. is_on_chain t x b) a ≡ first_on t (λ x. is_on_chain t x d) c
    → common t a b ≡ common t c d
unfolding common first_on
common-with t a b c d e = ap (λ (o : Option ℕ). unwrap_or o (object t)) e

-- the longer chain on the right is climbed
pub climb_right : (t : ClassTable) → AreClasses t → (a b q : ℕ) → IsNextOnChain t b q → length (chain t a) < length (chain t b)
    → common t a q ≡ common t a b
climb_right t are a b q next h = grind (arith, common-with, first-same, not_here-next, on_chain-length, length)

-- a class on the chain of another, with a chain no shorter, is the other
on_longer : (t : ClassTable) → AreClasses t → (a b : ℕ) → is_on_chain t a b ≡ true → length (chain t b) ≤ length (chain t a) → b ≡ a
on_longer t are a = climb t are (λ b. is_on_chain t a b ≡ true → length (chain t b) ≤ length (chain t a) → b ≡ a)
    (λ b top alone on h. on_alone t a b alone on)
    (λ b p link next before on h. elim (on_next t a b p next on) [
      | inl here ↦ here
      | inr up ↦ absurd (omega (arith, on_chain-length t are p a up, ap length next.chain_is))
    ])

-- the chain on the left, where it is no shorter, is climbed
pub climb_left : (t : ClassTable) → AreClasses t → (a b p : ℕ) → IsNextOnChain t a p → (a ≡ b → ⊥)
    → length (chain t b) ≤ length (chain t a) → common t p b ≡ common t a b
climb_left t are a b p next ne h =
    let miss : is_on_chain t a b ≡ false = grind (arith, false_from_ne_true, on_longer) in
    common-with t p b a b
    (sym (first-next t (λ x. is_on_chain t x b) a p next ∙ ap (λ (v : Bool). cond v (Some a) (first_on t (λ x. is_on_chain t x b) p)) miss))

-- the left chain does not end before the classes meet, and neither does the right one
pub not_end_left : (t : ClassTable) → AreClasses t → (a b : ℕ) → IsClass t b → IsEndOfChain t a → length (chain t b) ≤ length (chain t a)
    → b ≡ a
not_end_left t are a b is end h = grind (arith, on_chain-object t are b is, on_longer)

pub not_end_right : (t : ClassTable) (a b : ℕ) → IsEndOfChain t b → length (chain t a) < length (chain t b) → ⊥
not_end_right t a b end h = omega (arith, chain-not_empty t a, ap length end.chain_is)
