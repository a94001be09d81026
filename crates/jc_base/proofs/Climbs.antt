-- Climbing the chain of superclasses one class at a time.
use Rattle.std.proofs.Common.{◌≡◌, ℕ, zero, suc, ◌+◌, ◌<◌, ◌≤◌, ◌⊎◌, inl, inr, Bool, true, false, max, List, [], ◌∷◌, length}
use Rattle.std.proofs.Common.{Option, Some, None, refl, sym, ap, subst, ◌∙◌, arith}
use Rattle.std.specs.Prelude.{◌==◌, ◌||◌, slice_get}
use Rattle.std.proofs.lemmas.Bool.{eqb-true, eq-eqb, false≢true, cases_lt, or_cases, ne_eqb}
use Rattle.std.proofs.Math.Bool.{or-true}
use Rattle.std.proofs.lemmas.Option.{slice_get_within}
use Rattle.jc_base.specs.declared.record.ClassRec.{ClassRec}
use Rattle.jc_base.specs.Class.{ClassTable, IsClass, AreClasses, IsNextOnChain, is_interface, parent_of, parent_in_record, chain_over, chain, height}
use Rattle.jc_base.specs.Class.{height_below, list_of, object}
use Rattle.jc_base.specs.Order.{is_on_chain}
use Rattle.jc_base.proofs.Chains.{chain_over-front, chain_alone, next_on_chain, end_of_chain}

list_of-length : (f : ℕ → List ℕ) (n : ℕ) (o : Option ℕ) → ((p : ℕ) → length (f p) ≤ n) → length (list_of f o) ≤ n
list_of-length f n x short = grind (arith)

chain_over-length : (t : ClassTable) (n c : ℕ) → length (chain_over t n c) ≤ suc n
unfolding chain_over
chain_over-length t zero c = omega arith
chain_over-length t (suc n) c = omega (arith, list_of-length (chain_over t n) (suc n) (parent_of t c) (chain_over-length t n))

-- a chain has at most one class more than there are records
pub chain-length : (t : ClassTable) (c : ℕ) → length (chain t c) ≤ length t.records + 1
unfolding chain
chain-length t c = omega (arith, chain_over-length t (length t.records) c)

pub chain-front : (t : ClassTable) (c : ℕ) → (cs : List ℕ) × (chain t c ≡ c ∷ cs)
unfolding chain
chain-front t c = chain_over-front t (length t.records) c

pub chain-not_empty : (t : ClassTable) (c : ℕ) → 1 ≤ length (chain t c)
chain-not_empty t c = let f = chain-front t c in rw f.1 (omega arith)

-- what has a superclass is a class
has_parent : (t : ClassTable) (c p : ℕ) (o : Option ClassRec) → slice_get t.records c ≡ o → parent_in_record o ≡ Some p → IsClass t c
unfolding is_interface
has_parent t c p None e h = absurd cc
has_parent t c p (Some r) e h = plain r.interface refl where
  plain : (b : Bool) → r.interface ≡ b → IsClass t c
  plain true i = absurd (no_parent (rw i at h)) where
    no_parent : None ≡ Some p → ⊥
    no_parent q = cc
  plain false i = record { number = slice_get_within t.records c r e; class = rw e i }

pub parent_of-class : (t : ClassTable) (c p : ℕ) → parent_of t c ≡ Some p → IsClass t c
unfolding parent_of
parent_of-class t c p e = has_parent t c p (slice_get t.records c) refl e

pub chain-alone : (t : ClassTable) (c : ℕ) → parent_of t c ≡ None → chain t c ≡ c ∷ []
unfolding chain
chain-alone t c e = chain_alone t (length t.records) c e

-- ---- induction along a chain, from its end

step : (t : ClassTable) (are : AreClasses t) (P : ℕ → Type 0) → ((c : ℕ) → parent_of t c ≡ None → chain t c ≡ c ∷ [] → P c)
    → ((c p : ℕ) → parent_of t c ≡ Some p → IsNextOnChain t c p → P p → P c)
    → (c : ℕ) (o : Option ℕ) → parent_of t c ≡ o → ((p : ℕ) → length (chain t p) < length (chain t c) → P p) → P c
step t are P ends next c None e before = ends c e (chain-alone t c e)
step t are P ends next c (Some p) e before = grind (arith, next_on_chain t c p are (parent_of-class t c p e) e, length)

climb_over : (t : ClassTable) (are : AreClasses t) (P : ℕ → Type 0) → ((c : ℕ) → parent_of t c ≡ None → chain t c ≡ c ∷ [] → P c)
    → ((c p : ℕ) → parent_of t c ≡ Some p → IsNextOnChain t c p → P p → P c) → (n c : ℕ) → length (chain t c) ≤ n → P c
climb_over t are P ends next zero c h = absurd (omega (arith, chain-not_empty t c))
climb_over t are P ends next (suc n) c h =
    step t are P ends next c (parent_of t c) refl (λ p lt. climb_over t are P ends next n p (omega arith))

-- what holds of each number without superclass, and of a class where it holds of its superclass, holds of all
pub climb : (t : ClassTable) (are : AreClasses t) (P : ℕ → Type 0) → ((c : ℕ) → parent_of t c ≡ None → chain t c ≡ c ∷ [] → P c)
    → ((c p : ℕ) → parent_of t c ≡ Some p → IsNextOnChain t c p → P p → P c) → (c : ℕ) → P c
climb t are P ends next c = climb_over t are P ends next (length (chain t c)) c (omega arith)

-- ---- which classes are on a chain

pub on_chain-next : (t : ClassTable) (d c p : ℕ) → IsNextOnChain t c p → is_on_chain t d c ≡ ((c == d) || is_on_chain t d p)
unfolding is_on_chain
on_chain-next t d c p next = rw next.chain_is refl

pub on_chain-alone : (t : ClassTable) (d c : ℕ) → chain t c ≡ c ∷ [] → is_on_chain t d c ≡ ((c == d) || false)
unfolding is_on_chain
on_chain-alone t d c e = rw e refl

pub on_chain-here : (t : ClassTable) (c : ℕ) → is_on_chain t c c ≡ true
unfolding is_on_chain
on_chain-here t c = grind (arith, chain-front t c, eq-eqb c c refl)

only : (b : Bool) → (b || false) ≡ true → b ≡ true
only x e = grind (arith, false≢true)

-- the class on the chain of a class that has no superclass
pub on_alone : (t : ClassTable) (d c : ℕ) → chain t c ≡ c ∷ [] → is_on_chain t d c ≡ true → c ≡ d
on_alone t d c e on = eqb-true c d (only (c == d) (sym (on_chain-alone t d c e) ∙ on))

-- a class on the chain of a class is the class, or on the chain of its superclass
pub on_next : (t : ClassTable) (d c p : ℕ) → IsNextOnChain t c p → is_on_chain t d c ≡ true → (c ≡ d) ⊎ (is_on_chain t d p ≡ true)
on_next t d c p next on =
    elim (or_cases (c == d) (is_on_chain t d p) (sym (on_chain-next t d c p next) ∙ on)) [
      | inl here ↦ inl (eqb-true c d here)
      | inr above ↦ inr above
    ]

pub on_above : (t : ClassTable) (d c p : ℕ) → IsNextOnChain t c p → is_on_chain t d p ≡ true → is_on_chain t d c ≡ true
on_above t d c p next on = on_chain-next t d c p next ∙ ap (λ (b : Bool). (c == d) || b) on ∙ or-true (c == d)

pub on_chain-parent : (t : ClassTable) (c p : ℕ) → AreClasses t → parent_of t c ≡ Some p → is_on_chain t p c ≡ true
on_chain-parent t c p are e = on_above t p c p (next_on_chain t c p are (parent_of-class t c p e) e) (on_chain-here t p)

-- a class on a chain has the end of that chain for its own
pub on_chain-trans : (t : ClassTable) → AreClasses t → (c d e : ℕ) → is_on_chain t d c ≡ true → is_on_chain t e d ≡ true
    → is_on_chain t e c ≡ true
on_chain-trans t are = climb t are (λ c. (d e : ℕ) → is_on_chain t d c ≡ true → is_on_chain t e d ≡ true → is_on_chain t e c ≡ true)
    (λ c top alone d e on above. subst (λ (x : ℕ). is_on_chain t e x ≡ true) (sym (on_alone t d c alone on)) above)
    (λ c p link next before d e on above. elim (on_next t d c p next on) [
      | inl here ↦ subst (λ (x : ℕ). is_on_chain t e x ≡ true) (sym here) above
      | inr up ↦ on_above t e c p next (before d e up above)
    ])

pub on_chain-length : (t : ClassTable) → AreClasses t → (c d : ℕ) → is_on_chain t d c ≡ true → length (chain t d) ≤ length (chain t c)
on_chain-length t are = climb t are (λ c. (d : ℕ) → is_on_chain t d c ≡ true → length (chain t d) ≤ length (chain t c))
    (λ c top alone d on. let here = on_alone t d c alone on in subst (λ (x : ℕ). length (chain t x) ≤ length (chain t c)) here (omega arith))
    (λ c p link next before d on. elim (on_next t d c p next on) [
      | inl here ↦ subst (λ (x : ℕ). length (chain t x) ≤ length (chain t c)) here (omega arith)
      | inr up ↦ omega (arith, before d up, ap length next.chain_is)
    ])

-- the classes on the chain of a class are classes
pub on_chain-class : (t : ClassTable) → AreClasses t → (c d : ℕ) → IsClass t c → is_on_chain t d c ≡ true → IsClass t d
on_chain-class t are = climb t are (λ c. (d : ℕ) → IsClass t c → is_on_chain t d c ≡ true → IsClass t d)
    (λ c top alone d is on. subst (IsClass t) (on_alone t d c alone on) is)
    (λ c p link next before d is on. elim (on_next t d c p next on) [
      | inl here ↦ subst (IsClass t) here is
      | inr up ↦ before d next.class up
    ])

-- object is on the chain of every class
pub on_chain-object : (t : ClassTable) → AreClasses t → (c : ℕ) → IsClass t c → is_on_chain t (object t) c ≡ true
on_chain-object t are = climb t are (λ c. IsClass t c → is_on_chain t (object t) c ≡ true)
    (λ c top alone is. subst (λ (x : ℕ). is_on_chain t x c ≡ true) (end_of_chain t c are is top).last_is (on_chain-here t c))
    (λ c p link next before is. on_above t (object t) c p next (before next.class))

-- nothing but object is on the chain of object
pub on_object : (t : ClassTable) → AreClasses t → (d : ℕ) → is_on_chain t d (object t) ≡ true → object t ≡ d
on_object t are d on = on_alone t d (object t) (chain-alone t (object t) are.object_ends) on

-- ---- heights

height_over : (t : ClassTable) (n c : ℕ) → c < n → length (chain t c) ≤ height_below t n
height_over t zero c h = absurd (omega arith)
height_over t (suc n) c h = elim (cases_lt c n) [
  | inl lt ↦ omega (arith, height_over t n c lt)
  | inr le ↦ let e : c ≡ n = omega arith in subst (λ (x : ℕ). length (chain t x) ≤ max (height_below t n) (length (chain t n))) (sym e) (omega arith)
]

height_least : (t : ClassTable) (n : ℕ) → length (chain t (object t)) ≤ height_below t n
height_least t zero = omega arith
height_least t (suc n) = omega (arith, height_least t n)

height-is : (t : ClassTable) (c : ℕ) (o : Option ℕ) → parent_of t c ≡ o → length (chain t c) ≤ height t
unfolding height
height-is t c x e = grind (arith, length, chain-alone, height_least, chain-not_empty, height_over, parent_of-class)

-- no chain has more classes than the height
pub chain-height : (t : ClassTable) (c : ℕ) → length (chain t c) ≤ height t
chain-height t c = height-is t c (parent_of t c) refl

-- ---- the steps of the loops

pub not_here-next : (t : ClassTable) (d c p : ℕ) → IsNextOnChain t c p → (c ≡ d → ⊥) → is_on_chain t d p ≡ is_on_chain t d c
not_here-next t d c p next ne = sym (on_chain-next t d c p next ∙ ap (λ (b : Bool). b || is_on_chain t d p) (ne_eqb c d ne))

pub not_here-alone : (t : ClassTable) (d c : ℕ) → chain t c ≡ c ∷ [] → (c ≡ d → ⊥) → false ≡ is_on_chain t d c
not_here-alone t d c e ne = sym (on_chain-alone t d c e ∙ ap (λ (b : Bool). b || false) (ne_eqb c d ne))
