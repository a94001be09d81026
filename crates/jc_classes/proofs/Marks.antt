-- Marks on the classes of a chain.
use Rattle.std.proofs.Common.{◌≡◌, ℕ, ◌+◌, ◌<◌, set, get_or, Bool, true, false, List, ◌∷◌, length, map, Option, Some, None, refl, sym, ap}
use Rattle.std.proofs.Common.{subst, ◌∙◌, arith}
use Rattle.std.specs.Prelude.{◌==◌, ◌||◌, IfSome}
use Rattle.std.proofs.lemmas.Bool.{cases_lt, false≢true, eq-eqb, eqb-true}
use Rattle.std.proofs.lemmas.List.{get_or-set_same, get_or-set_other, length-set}
use Rattle.std.proofs.lemmas.List.FromFn.{fill_by_all, get_or-map-range_with_len, length-map-range_with_len}
use Rattle.std.specs.List.{range_with_len, list_any}
use Rattle.std.proofs.Math.Bool.{or-true, or-false}
use Rattle.jc_base.specs.Class.{list_of}
use Rattle.jc_classes.specs.Outline.{LineTable, chain, is_on_chain}

-- marks of the classes of a chain below one that is still to be climbed
pub record AreMarked (t : LineTable) (c : ℕ) (marks : List Bool) (above : Option ℕ) : Type 0 where
  pub count : length marks ≡ length t.lines
  pub each : (d : ℕ) → d < length t.lines → (get_or marks d false || list_any (λ x. x == d) (list_of (chain t) above)) ≡ is_on_chain t d c
  pub known : IfSome above (λ a. a < length t.lines)

pub unmarked : (t : LineTable) (c : ℕ) (marks : List Bool) → c < length t.lines → length marks ≡ length t.lines
    → ((k : ℕ) → k < length marks → get_or marks k false ≡ false) → AreMarked t c marks (Some c)
unfolding is_on_chain
unmarked t c marks h count none = grind (arith)

at_class : (t : LineTable) (a d : ℕ) (next : Option ℕ) → chain t a ≡ a ∷ list_of (chain t) next
    → list_any (λ x. x == d) (list_of (chain t) (Some a)) ≡ ((a == d) || list_any (λ x. x == d) (list_of (chain t) next))
at_class t a d next step = ap (list_any (λ x. x == d)) step

marked_each : (t : LineTable) (c a : ℕ) (marks : List Bool) (next : Option ℕ) (d : ℕ) (b : Bool) → (a == d) ≡ b → a < length marks
    → chain t a ≡ a ∷ list_of (chain t) next
    → (get_or marks d false || list_any (λ x. x == d) (list_of (chain t) (Some a))) ≡ is_on_chain t d c
    → (get_or (set marks a true) d false || list_any (λ x. x == d) (list_of (chain t) next)) ≡ is_on_chain t d c
marked_each t c a marks next d true e h step before = grind (arith, eqb-true, get_or, get_or-set_same, at_class, or-true)
marked_each t c a marks next d false e h step before = grind (arith, false≢true, eq-eqb, get_or, get_or-set_other, at_class)

pub marked_more : (t : LineTable) (c a : ℕ) (marks : List Bool) (above next : Option ℕ) → above ≡ Some a
    → chain t a ≡ a ∷ list_of (chain t) next → IfSome next (λ p. p < length t.lines) → AreMarked t c marks above
    → AreMarked t c (set marks a true) next
marked_more t c a marks above next is step known are = grind (arith, length-set, marked_each, get_or)

pub marked_all : (t : LineTable) (c : ℕ) (marks : List Bool) (above : Option ℕ) → above ≡ None → AreMarked t c marks above
    → marks ≡ map (λ d. is_on_chain t d c) (range_with_len 0 (length t.lines))
marked_all t c marks above is are =
    let whole : AreMarked t c marks None = subst (AreMarked t c marks) is are in
    fill_by_all (λ d. is_on_chain t d c) marks (length t.lines) false whole.count (λ d k. sym (or-false (get_or marks d false)) ∙ whole.each d k)

pub ruleset marking = (unmarked, marked_more, marked_all)

-- ---- taking marks away

-- what is marked stands on the part of the chain that is still to be climbed
pub record AreLeft (t : LineTable) (marks : List Bool) (above : Option ℕ) : Type 0 where
  pub count : length marks ≡ length t.lines
  pub each : (d : ℕ) → d < length t.lines → get_or marks d false ≡ true → list_any (λ x. x == d) (list_of (chain t) above) ≡ true
  pub known : IfSome above (λ a. a < length t.lines)

pub left_first : (t : LineTable) (c : ℕ) (marks : List Bool) → c < length t.lines
    → marks ≡ map (λ d. is_on_chain t d c) (range_with_len 0 (length t.lines)) → AreLeft t marks (Some c)
unfolding is_on_chain
left_first t c marks h e = grind (arith, length-map-range_with_len, get_or, get_or-map-range_with_len)

left_each : (t : LineTable) (a : ℕ) (marks : List Bool) (next : Option ℕ) (d : ℕ) (b : Bool) → (a == d) ≡ b → a < length marks
    → chain t a ≡ a ∷ list_of (chain t) next
    → (get_or marks d false ≡ true → list_any (λ x. x == d) (list_of (chain t) (Some a)) ≡ true)
    → get_or (set marks a false) d false ≡ true → list_any (λ x. x == d) (list_of (chain t) next) ≡ true
left_each t a marks next d true e h step before on = grind (arith, eqb-true, get_or, get_or-set_same, false≢true)
left_each t a marks next d false e h step before on = grind (arith, false≢true, eq-eqb, get_or, get_or-set_other, at_class)

pub left_less : (t : LineTable) (a : ℕ) (marks : List Bool) (above next : Option ℕ) → above ≡ Some a → chain t a ≡ a ∷ list_of (chain t) next
    → IfSome next (λ p. p < length t.lines) → AreLeft t marks above → AreLeft t (set marks a false) next
left_less t a marks above next is step known are =
    let low : a < length t.lines = subst (λ (o : Option ℕ). IfSome o (λ p. p < length t.lines)) is are.known in
    record {
      count = length-set marks a false ∙ are.count;
      each = λ d k on. left_each t a marks next d (a == d) refl (omega (arith, are.count)) step
          (subst (λ (o : Option ℕ). get_or marks d false ≡ true → list_any (λ x. x == d) (list_of (chain t) o) ≡ true) is (are.each d k)) on;
      known = known;
    }

pub left_none : (t : LineTable) (marks : List Bool) (above : Option ℕ) → above ≡ None → AreLeft t marks above → (k : ℕ) → k < length marks
    → get_or marks k false ≡ false
left_none t marks above is are k lt = grind (arith, get_or, false≢true)

pub ruleset unmarking = (left_first, left_less, left_none)

-- ---- taking all marks away

pub cleared_more : (marks : List Bool) (i : ℕ) → i < length marks → ((k : ℕ) → k < i → get_or marks k false ≡ false) → (k : ℕ)
    → k < i + 1 → get_or (set marks i false) k false ≡ false
cleared_more marks i h none k lt = grind (arith, cases_lt, get_or-set_other, get_or, get_or-set_same)

pub ruleset clearing = (cleared_more)

-- ---- reading a mark

pub mark_is : (t : LineTable) (c : ℕ) (marks : List Bool) (d : ℕ) (b : Bool)
    → marks ≡ map (λ d. is_on_chain t d c) (range_with_len 0 (length t.lines)) → d < length t.lines → get_or marks d b ≡ is_on_chain t d c
mark_is t c marks d b e h = grind (arith, get_or, get_or-map-range_with_len)

pub marks_count : (t : LineTable) (c : ℕ) (marks : List Bool) → marks ≡ map (λ d. is_on_chain t d c) (range_with_len 0 (length t.lines))
    → length marks ≡ length t.lines
marks_count t c marks e = ap length e ∙ length-map-range_with_len (λ d. is_on_chain t d c) 0 (length t.lines)

pub ruleset reading = (mark_is, marks_count)
