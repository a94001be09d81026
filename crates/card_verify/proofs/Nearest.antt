-- The nearest place ahead is the least.
use Rattle.std.proofs.Common.{◌≡◌, ℕ, ◌+◌, ◌<◌, ◌≤◌, ◌⊎◌, inl, inr, ⊎_elim, Bool, true, false, ◌&&◌, if◌then◌else◌}
use Rattle.std.proofs.Common.{Option, Some, None, List, [], ◌∷◌, ◌++◌, length, slice_get, get_or, IsSomeAnd, MatchBool, unwrap_or, refl, sym, ◌∙◌, ap}
use Rattle.std.proofs.Common.{subst, arith, append_assoc, Contains}
use Rattle.std.specs.Prelude.{ℤ, pos, negsuc, fold, nat_le}
use Rattle.std.proofs.lemmas.Bool.{false≢true, cases_lt, leb-true, leb-false, ltb-true, ltb-false}
use Rattle.std.proofs.lemmas.Option.{slice_get_within, slice_get-get_or, get_or_from_slice_get}
use Rattle.std.proofs.lemmas.List.Elements.{Contains-append_left, Contains-push, Contains-push_cases}
use Rattle.jc_base.specs.declared.record.Handler.{Handler}
use Rattle.jc_decode.specs.declared.insn.Placed.{Placed}
use Rattle.jc_decode.specs.Listing.{listing, targets}
use Rattle.jc_decode.specs.Places.{IsTargetIn}
use Rattle.jc_decode.proofs.Elements.{Contains-first, Contains-later, Contains-either}
use Rattle.jc_control.specs.Method.{Method}
use Rattle.card_typing.specs.Place.{IsTarget, IsEntry}
use Rattle.card_verify.specs.Ahead.{IsLeastFrom, IsClear, is_nearer, nearer, nearer_target}

-- a set of the same numbers
pub least-same : (S T : ℕ → Type 0) (from : ℕ) (o : Option ℕ) → ((q : ℕ) → S q → T q) → ((q : ℕ) → T q → S q)
    → IsLeastFrom S from o → IsLeastFrom T from o
least-same x x2 from x22 to back h = grind (arith)

pos-same : (p q : ℕ) → pos p ≡ pos q → p ≡ q
pos-same p q e = cc

module _ (S : ℕ → Type 0) (from : ℕ) where
  abbrev With : ℤ → ℕ → Type 0
  With t q = S q ⊎ (t ≡ pos q)

  -- a number before the code is in no set
  step-before : (n : ℕ) (best : Option ℕ) → IsLeastFrom S from best → IsLeastFrom (With (negsuc n)) from best
  step-before n best h = least-same S (With (negsuc n)) from best (λ q s. inl s) (λ q w. ⊎_elim (λ s. s) (λ e. absurd (cc)) w) h

  step-past : (p : ℕ) (best : Option ℕ) → p < from → IsLeastFrom S from best → IsLeastFrom (With (pos p)) from best
  step-past p x past h = grind (arith, ⊎_elim, pos-same)

  step-first : (p : ℕ) → from ≤ p → IsLeastFrom S from None → IsLeastFrom (With (pos p)) from (Some p)
  step-first p le h = (inr refl, le, λ q w ge. ⊎_elim (λ s. let lt = h q s in absurd (omega (arith, lt, ge))) (λ e. omega (arith, pos-same p q e)) w)

  step-nearer : (p b : ℕ) → from ≤ p → p < b → IsLeastFrom S from (Some b) → IsLeastFrom (With (pos p)) from (Some p)
  step-nearer p b le lt h = (inr refl, le, λ q w ge. ⊎_elim (λ s. let ge2 = h.2 q s ge in omega (arith, ge2, lt)) (λ e. omega (arith, pos-same p q e)) w)

  step-farther : (p b : ℕ) → b ≤ p → IsLeastFrom S from (Some b) → IsLeastFrom (With (pos p)) from (Some b)
  step-farther p b le h = (inl h.0, h.1, λ q w ge. ⊎_elim (λ s. h.2 q s ge) (λ e. omega (arith, pos-same p q e, le)) w)

  step-here : (p : ℕ) (best : Option ℕ) (a b : Bool) → nat_le from p ≡ a → is_nearer p best ≡ b → IsLeastFrom S from best
      → IsLeastFrom (With (pos p)) from (if a && b then Some p else best)
  step-here p best false b e f h = step-past p best (leb-false from p e) h
  step-here p None true true e f h = step-first p (leb-true from p e) h
  step-here p None true false e f h = absurd (false≢true (sym f))
  step-here p (Some b) true true e f h = step-nearer p b (leb-true from p e) (ltb-true p b f) h
  step-here p (Some b) true false e f h = step-farther p b (ltb-false p b f) h

  pub nearer-step : (t : ℤ) (best : Option ℕ) → IsLeastFrom S from best → IsLeastFrom (With t) from (nearer_target from best t)
  nearer-step x best h = grind (arith, step-here, step-before)

-- the targets of one instruction
pub nearest-all : (S : ℕ → Type 0) (from : ℕ) (xs : List ℤ) (best : Option ℕ) → IsLeastFrom S from best
    → IsLeastFrom (λ q. S q ⊎ Contains xs (pos q)) from (fold (nearer_target from) best xs)
nearest-all S from [] best h = grind (arith, least-same, ⊎_elim)
nearest-all S from (x ∷ xs) best h =
    least-same (λ q. (S q ⊎ (x ≡ pos q)) ⊎ Contains xs (pos q)) (λ q. S q ⊎ Contains (x ∷ xs) (pos q)) from
    (fold (nearer_target from) (nearer_target from best x) xs)
    (λ q w. ⊎_elim (λ u. ⊎_elim (λ s. inl s) (λ e. inr (subst (Contains (x ∷ xs)) e (Contains-first x xs))) u)
    (λ c. inr (Contains-later x xs (pos q) c)) w)
    (λ q w. ⊎_elim (λ s. inl (inl s)) (λ c. ⊎_elim (λ e. inl (inr e)) (λ later. inr later) (Contains-either x xs (pos q) c)) w)
    (nearest-all (λ q. S q ⊎ (x ≡ pos q)) from xs (nearer_target from best x) (nearer-step S from x best h))

-- ---- the targets of the instructions so far

pub led-more : (code : List ℕ) (from : ℕ) (is : List Placed) (i : Placed) (best : Option ℕ) → IsLeastFrom (IsTargetIn code is) from best
    → IsLeastFrom (IsTargetIn code (is ++ i ∷ [])) from (fold (nearer_target from) best (targets code i))
led-more code from is i best h =
    least-same (λ q. IsTargetIn code is q ⊎ Contains (targets code i) (pos q)) (IsTargetIn code (is ++ i ∷ [])) from
    (fold (nearer_target from) best (targets code i))
    (λ q w. ⊎_elim (λ l. record { from = l.from; stands = Contains-append_left is (i ∷ []) l.from l.stands; leads = l.leads })
    (λ c. record { from = i; stands = Contains-push is i; leads = c }) w)
    (λ q l. ⊎_elim (λ before. inl (record { from = l.from; stands = before; leads = l.leads }))
    (λ e. inr (subst (λ (j : Placed). Contains (targets code j) (pos q)) (sym e) l.leads)) (Contains-push_cases is i l.from l.stands))
    (nearest-all (IsTargetIn code is) from (targets code i) best h)

pub led-all : (m : Method) (from : ℕ) (is : List Placed) (best : Option ℕ) → is ≡ listing m.code → IsLeastFrom (IsTargetIn m.code is) from best
    → IsLeastFrom (IsTarget m) from best
led-all m from is best e h = subst (λ (ps : List Placed). IsLeastFrom (IsTargetIn m.code ps) from best) e h

-- ---- the entries of the handlers so far

abbrev pub EntryBelow : List Handler → ℕ → ℕ → Type 0
EntryBelow hs n q = (k : ℕ) × (k < n) × (h : Handler) × (slice_get hs k ≡ Some h) × (h.entry ≡ q)

some-entry : (g h : Handler) (o : Option Handler) → o ≡ Some g → o ≡ Some h → g ≡ h
some-entry g h o e f = cc

pub entry-more : (hs : List Handler) (from n : ℕ) (h : Handler) (best : Option ℕ) → slice_get hs n ≡ Some h
    → IsLeastFrom (EntryBelow hs n) from best → IsLeastFrom (EntryBelow hs (n + 1)) from (nearer from best h.entry)
entry-more hs from n h best is s =
    least-same (λ q. EntryBelow hs n q ⊎ (pos h.entry ≡ pos q)) (EntryBelow hs (n + 1)) from (nearer from best h.entry)
    (λ q w. ⊎_elim (λ e. (e.0, let lt = e.1 in omega (arith, lt), e.2, e.3, e.4)) (λ e. (n, omega arith, h, is, pos-same h.entry q e)) w)
    (λ q e. ⊎_elim (λ before. inl (e.0, before, e.2, e.3, e.4)) (λ le. inr (last q e le)) (cases_lt e.0 n))
    (nearer-step (EntryBelow hs n) from (pos h.entry) best s)
  where
    last : (q : ℕ) (e : EntryBelow hs (n + 1) q) → n ≤ e.0 → pos h.entry ≡ pos q
    last q e le =
        let same : e.0 ≡ n = let lt = e.1 in omega (arith, lt, le) in
        let one : e.2 ≡ h = some-entry e.2 h (slice_get hs n) (ap (slice_get hs) (sym same) ∙ e.3) is in
        ap pos (ap (λ (x : Handler). x.entry) (sym one) ∙ e.4)

pub entry-all : (m : Method) (from n : ℕ) (best : Option ℕ) → length m.rec.handlers ≤ n → IsLeastFrom (EntryBelow m.rec.handlers n) from best
    → IsLeastFrom (IsEntry m) from best
entry-all m from n best all s = grind (arith, least-same, slice_get_within, get_or_from_slice_get, slice_get-get_or)

-- ---- what is kept

-- a place that is not passed stays the least
pub least-kept : (S : ℕ → Type 0) (from place : ℕ) (o : Option ℕ) → from ≤ place → ¬ (IsSomeAnd o (λ q. q < place)) → IsLeastFrom S from o
    → IsLeastFrom S place o
least-kept x from place x2 le none h = grind (arith, ⊎_elim, cases_lt)

-- the least one tells whether the first is in the set
pub least-here : (S : ℕ → Type 0) (from : ℕ) (o : Option ℕ) → IsLeastFrom S from o → o ≡ Some from → S from
least-here x from x2 h e = grind (arith)

pub here-least : (S : ℕ → Type 0) (from : ℕ) (o : Option ℕ) → IsLeastFrom S from o → S from → o ≡ Some from
here-least x from x2 h s = grind (arith)

-- the next of the handlers that a walk goes over
pub entry-next : (hs items : List Handler) (from n : ℕ) (d : Handler) (best r : Option ℕ) (e : ℕ) → items ≡ hs → n < length items
    → e ≡ (get_or items n d).entry → r ≡ nearer from best e
    → IsLeastFrom (EntryBelow hs n) from best → IsLeastFrom (EntryBelow hs (n + 1)) from r
entry-next hs items from n d best r e same inside entry is s = grind (arith, slice_get, get_or, slice_get-get_or, entry-more)

-- a walk along a list
pub next-whole : {A : Type 0} (before rest : List A) (x : A) (after whole : List A) → before ++ rest ≡ whole → rest ≡ x ∷ after
    → (before ++ x ∷ []) ++ after ≡ whole
next-whole before rest x after whole h e = append_assoc before (x ∷ []) after ∙ ap (λ (r : List _). before ++ r) (sym e) ∙ h

-- whether the first is in the set, as the place that was found tells
pub told-here : (S : ℕ → Type 0) (from : ℕ) (o : Option ℕ) (b : Bool) → IsLeastFrom S from o
    → MatchBool b (o ≡ Some from) (¬ (o ≡ Some from)) → MatchBool b (S from) (¬ (S from))
told-here x from o x2 h e = grind (arith, least-here, here-least)

-- ---- no target before a place

pub clear-least : (marked : ℕ → Type 0) (place : ℕ) (o : Option ℕ) → IsLeastFrom marked place o → IsClear marked place (unwrap_or o 65536)
clear-least marked place x h = grind (arith)
