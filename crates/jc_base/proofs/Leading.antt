-- Numbers that lead to others, and the test that computes it.
use Rattle.std.proofs.Common.{◌≡◌, ℕ, zero, suc, ◌<◌, ◌⊎◌, inl, inr, true, List, [], ◌∷◌, get_or, arith}
use Rattle.std.specs.Prelude.{◌==◌, ◌&&◌, Contains}
use Rattle.std.specs.List.{list_any}
use Rattle.std.proofs.lemmas.Bool.{eqb-true, eq-eqb, false≢true, cases_lt, or_left, or_right, and_from, and_parts, or_cases}
use Rattle.std.proofs.lemmas.List.Folds.{list_any_at}
use Rattle.std.proofs.lemmas.List.Elements.{Contains-append_right}
use Rattle.jc_base.specs.Leads.{Leads, at_once, further, leads_below}

pub any-contains : (xs : List ℕ) (b : ℕ) → list_any (λ x. x == b) xs ≡ true → Contains xs b
any-contains [] b e = absurd (false≢true e)
any-contains (x ∷ xs) b e = elim (or_cases (x == b) (list_any (λ y. y == b) xs) e) [
  | inl here ↦ (0, omega arith, eqb-true x b here)
  | inr more ↦ Contains-append_right (x ∷ []) xs b (any-contains xs b more)
]

-- ---- what leads to a number, and that to another

pub Leads-join : {next : ℕ → List ℕ} {a b c : ℕ} → Leads next a b → Leads next b c → Leads next a c
Leads-join (at_once h) more = further h more
Leads-join (further h rest) more = further h (Leads-join rest more)

no-step : {xs : List ℕ} {b : ℕ} → xs ≡ [] → Contains xs b → ⊥
no-step {b = b} e h = grind (arith)

-- where each step of one kind is one of another
pub Leads-along : {f g : ℕ → List ℕ} {a b : ℕ} → ((x y : ℕ) → Contains (f x) y → Contains (g x) y) → Leads f a b → Leads g a b
Leads-along {a = a} step (at_once {b = b} h) = at_once (step a b h)
Leads-along {a = a} step (further {b = b} h rest) = further (step a b h) (Leads-along step rest)

-- where there is no step, nothing leads to anything
pub leads-nowhere : {next : ℕ → List ℕ} {a b : ℕ} → ((x : ℕ) → next x ≡ []) → Leads next a b → ⊥
leads-nowhere {a = a} none (at_once {b = b} h) = no-step (none a) h
leads-nowhere {a = a} none (further {b = b} h rest) = no-step (none a) h

pub Leads-from : {next : ℕ → List ℕ} {a b : ℕ} (n : ℕ) → ((x y : ℕ) → Contains (next x) y → x < n) → Leads next a b → a < n
Leads-from {a = a} n inside (at_once {b = b} h) = inside a b h
Leads-from {a = a} n inside (further {b = b} h rest) = inside a b h

-- ---- the test

pub leads-sound : (next : ℕ → List ℕ) (n a b : ℕ) → leads_below next n a b ≡ true → Leads next a b
unfolding leads_below
leads-sound next zero a b e = at_once (any-contains (next a) b e)
leads-sound next (suc n) a b e = elim (or_cases (leads_below next n a b) (leads_below next n a n && leads_below next n n b) e) [
  | inl below ↦ leads-sound next n a b below
  | inr through ↦
      let two = and_parts (leads_below next n a n) (leads_below next n n b) through in
      Leads-join (leads-sound next n a n two.0) (leads-sound next n n b two.1)
]

leads-step : (next : ℕ → List ℕ) (n a b : ℕ) → Contains (next a) b → leads_below next n a b ≡ true
unfolding leads_below
leads-step next zero a b h = grind (arith, list_any_at, eq-eqb, get_or)
leads-step next (suc n) a b h = or_left (leads_below next n a b) (leads_below next n a n && leads_below next n n b) (leads-step next n a b h)

-- to n and from there
over : (next : ℕ → List ℕ) (n a b : ℕ) → leads_below next n a n ≡ true → leads_below next n n b ≡ true → leads_below next (suc n) a b ≡ true
unfolding leads_below
over next n a b e f = grind (arith, or_right, and_from)

below : (next : ℕ → List ℕ) (n a b : ℕ) → leads_below next n a b ≡ true → leads_below next (suc n) a b ≡ true
unfolding leads_below
below next n a b e = or_left (leads_below next n a b) (leads_below next n a n && leads_below next n n b) e

-- either not over n, or to n and from there
parts : (next : ℕ → List ℕ) (n a b : ℕ) → leads_below next (suc n) a b ≡ true → (leads_below next n a b ≡ true)
    ⊎ ((leads_below next n a n ≡ true) × (leads_below next n n b ≡ true))
unfolding leads_below
parts next n a b e = grind (arith, or_cases, and_parts)

-- to n, and from n
to_last : (next : ℕ → List ℕ) (n a : ℕ) → leads_below next (suc n) a n ≡ true → leads_below next n a n ≡ true
to_last next n a e = elim (parts next n a n e) [ inl h ↦ h | inr h ↦ h.0 ]

from_last : (next : ℕ → List ℕ) (n b : ℕ) → leads_below next (suc n) n b ≡ true → leads_below next n n b ≡ true
from_last next n b e = elim (parts next n n b e) [ inl h ↦ h | inr h ↦ h.1 ]

leads-through : (next : ℕ → List ℕ) (n m a b : ℕ) → m < n → leads_below next n a m ≡ true → leads_below next n m b ≡ true
    → leads_below next n a b ≡ true
leads-through next zero m a b h e f = absurd (omega arith)
leads-through next (suc n) m a b h e f = elim (cases_lt m n) [
  | inl lt ↦ elim (parts next n a m e) [
    | inl am ↦ elim (parts next n m b f) [
      | inl mb ↦ below next n a b (leads-through next n m a b lt am mb)
      | inr mb ↦ over next n a b (leads-through next n m a n lt am mb.0) mb.1
    ]
    | inr am ↦ elim (parts next n m b f) [
      | inl mb ↦ over next n a b am.0 (leads-through next n m n b lt am.1 mb)
      | inr mb ↦ over next n a b am.0 mb.1
    ]
  ]
  | inr le ↦
      let here : m ≡ n = omega arith in
      over next n a b (to_last next n a (rw here at e)) (from_last next n b (rw here at f))
]

pub leads-complete : (next : ℕ → List ℕ) (n a b : ℕ) → ((x y : ℕ) → Contains (next x) y → x < n) → Leads next a b
    → leads_below next n a b ≡ true
leads-complete next n a b inside (at_once h) = leads-step next n a b h
leads-complete next n a b inside (further {b = m} h rest) =
    leads-through next n m a b (Leads-from n inside rest) (leads-step next n a m h) (leads-complete next n m b inside rest)
