-- The labels of renumbered code: one at each place and one at the end, each once, in the order of the places.
use Rattle.std.proofs.Common.{◌≡◌, ◌≢◌, ◌⊎◌, ℕ, suc, ◌+◌, ◌<◌, ◌≤◌, Bool, true, false, if◌then◌else◌, inl, inr, List, [], ◌∷◌}
use Rattle.std.proofs.Common.{length, refl, ap, ◌∙◌, subst, arith}
use Rattle.std.specs.Prelude.{count_by, cond, ◌==◌, slice_index_or}
use Rattle.std.proofs.lemmas.Bool.{cases_eq, eq-eqb, ne_eqb}
use Rattle.std.proofs.lemmas.List.Sums.{sum_by-cons}
use Rattle.jc_base.specs.Each.{IsAmong}
use Rattle.jc_base.proofs.Eaching.{IsAmong-from_Contains}
use Rattle.jc_control.specs.WellFormed.{IsBoundary, IsPlace}
use Rattle.jc_decode.specs.declared.insn.Placed.{Placed}
use Rattle.jc_decode.specs.declared.symbols.Item.{Item}
use Rattle.jc_decode.specs.declared.symbols.Item.TheVariants.{Plain, Branch, Switch, Label}
use Rattle.jc_decode.specs.Cases.{is_switch}
use Rattle.jc_decode.specs.Forms.{wide}
use Rattle.jc_decode.specs.Laws.{AreListed}
use Rattle.jc_decode.specs.Listing.{is_branch, listing, listing_end, end_from, Lists}
use Rattle.jc_decode.specs.Symbols.{IsOnce, is_label, place_of, steps_in}
use Rattle.law_renumbered.specs.Instruction.{renumbered_instruction}
use Rattle.law_renumbered.specs.Symbols.{item_of, items_from, labels_of}
use Rattle.law_renumbered.proofs.Items.{one-behind}

-- ---- places that rise

-- the instructions of a list stand one after the other, from a place to another
abbrev pub Rises : ℕ → ℕ → List Placed → Type 0
Rises at end [] = at ≡ end
Rises at end (i ∷ is) = (i.place ≡ at) × (0 < i.insn.len) × Rises (at + i.insn.len) end is

rises-from : (code : List ℕ) → AreListed code → (at : ℕ) (ps : List Placed) → Lists code at ps → Rises at (end_from at ps) ps
rises-from code listed at [] l = refl
rises-from code listed at (p ∷ ps) l = (l.0, listed.long at p.insn l.1, rises-from code listed (at + p.insn.len) ps l.2)

pub listing-rises : (code : List ℕ) → AreListed code → listing_end code ≡ length code → Rises 0 (length code) (listing code)
listing-rises code listed ends = subst (λ e. Rises 0 e (listing code)) ends (rises-from code listed 0 (listing code) listed.lists)

-- one of them begins at this place
abbrev pub IsStartIn : List Placed → ℕ → Type 0
IsStartIn [] l = ⊥
IsStartIn (i ∷ is) l = (i.place ≡ l) ⊎ IsStartIn is l

-- the same, or this is the end
abbrev pub IsLabelIn : ℕ → List Placed → ℕ → Type 0
IsLabelIn end [] l = end ≡ l
IsLabelIn end (i ∷ is) l = (i.place ≡ l) ⊎ IsLabelIn end is l

start-among : (ps : List Placed) (i : Placed) → IsAmong i ps → IsStartIn ps i.place
start-among [] i a = absurd a
start-among (j ∷ js) i (inl e) = inl (ap (λ (p : Placed). p.place) e)
start-among (j ∷ js) i (inr a) = inr (start-among js i a)

pub place-starts : (code : List ℕ) (l : ℕ) → IsPlace code l → IsStartIn (listing code) l
place-starts code l (i, stands, at) = subst (IsStartIn (listing code)) at (start-among (listing code) i (IsAmong-from_Contains i (listing code) stands))

label-start : (end : ℕ) (ps : List Placed) (l : ℕ) → IsStartIn ps l → IsLabelIn end ps l
label-start end [] l a = absurd a
label-start end (i ∷ is) l (inl e) = inl e
label-start end (i ∷ is) l (inr a) = inr (label-start end is l a)

label-end : (end : ℕ) (ps : List Placed) → IsLabelIn end ps end
label-end end [] = refl
label-end end (i ∷ is) = inr (label-end end is)

pub place-label : (code : List ℕ) (l : ℕ) → IsPlace code l → IsLabelIn (length code) (listing code) l
place-label code l p = label-start (length code) (listing code) l (place-starts code l p)

pub boundary-label : (code : List ℕ) (l : ℕ) → IsBoundary code l → IsLabelIn (length code) (listing code) l
boundary-label code l x = grind (arith, length, label-end, place-label)

label-above : (at end l : ℕ) (ps : List Placed) → Rises at end ps → IsLabelIn end ps l → at ≤ l
label-above at end l [] r e = omega (arith, r, e)
label-above at end l (i ∷ is) r (inl e) = omega (arith, r.0, e)
label-above at end l (i ∷ is) r (inr a) = omega (arith, label-above (at + i.insn.len) end l is r.2 a)

module _ (code : List ℕ) (reg : ℕ → ℕ) where
  -- ---- the item of an instruction

  abbrev chosen : Bool → Bool → Placed → Item
  chosen a b i =
      if a then Switch i.insn i.place (labels_of code i)
      else if b then Branch (wide i.insn.op) (slice_index_or (labels_of code i) 0 0)
      else Plain (renumbered_instruction reg i.insn)

  item-no-label : (l : ℕ) (i : Placed) → is_label l (item_of code reg i) ≡ false
  item-no-label l i = by (is_switch i.insn.op) (is_branch i.insn.op)
    where
      by : (a b : Bool) → is_label l (chosen a b i) ≡ false
      by true b = refl
      by false true = refl
      by false false = refl

  item-step : (all : List Item) (i : Placed) (rest : List Item)
      → length (steps_in code all (item_of code reg i ∷ rest)) ≡ suc (length (steps_in code all rest))
  item-step all i rest = by (is_switch i.insn.op) (is_branch i.insn.op)
    where
      by : (a b : Bool) → length (steps_in code all (chosen a b i ∷ rest)) ≡ suc (length (steps_in code all rest))
      by true b = refl
      by false true = refl
      by false false = refl

  pub step-count : (all : List Item) (ps : List Placed) → length (steps_in code all (items_from code reg ps)) ≡ length ps
  step-count all [] = refl
  step-count all (i ∷ is) = item-step all i (items_from code reg is) ∙ ap suc (step-count all is)

  -- ---- each label once

  abbrev counted : Bool → ℕ
  counted b = cond b 1 0

  count-cons : (l : ℕ) (x : Item) (xs : List Item) → count_by (is_label l) (x ∷ xs) ≡ cond (is_label l x) 1 0 + count_by (is_label l) xs
  count-cons l x xs = sum_by-cons (λ m. cond (is_label l m) 1 0) x xs

  count-behind : (l : ℕ) (i : Placed) (rest : List Item) → count_by (is_label l) (item_of code reg i ∷ rest) ≡ count_by (is_label l) rest
  count-behind l i rest = grind (arith, count-cons, item-no-label)

  none-below : (at l : ℕ) (ps : List Placed) → Rises at (length code) ps → l < at → count_by (is_label l) (items_from code reg ps) ≡ 0
  none-below at l [] r lt = grind (arith, length, ne_eqb, count-cons)
  none-below at l (i ∷ is) r lt = grind (arith, ne_eqb, count-cons, count-behind, none-below (at + i.insn.len) l is r.2 (omega (arith, lt)))

  once-from : (at l : ℕ) (ps : List Placed) → Rises at (length code) ps → IsLabelIn (length code) ps l
      → count_by (is_label l) (items_from code reg ps) ≡ 1
  once-from at l [] r e = count-cons l (Label (length code)) [] ∙ ap (λ b. counted b + 0) (eq-eqb (length code) l e)
  once-from at l (i ∷ is) r (inl e) =
      omega (
        arith,
        count-cons l (Label i.place) (item_of code reg i ∷ items_from code reg is),
        ap counted (eq-eqb i.place l e),
        count-behind l i (items_from code reg is),
        none-below (at + i.insn.len) l is r.2 (omega (arith, e, r.0, r.1)),
      )
  once-from at l (i ∷ is) r (inr a) =
      let above = label-above (at + i.insn.len) (length code) l is r.2 a in
      let no : (i.place == l) ≡ false = ne_eqb i.place l (λ e. omega (arith, e, r.0, r.1, above)) in
      omega (
        arith,
        count-cons l (Label i.place) (item_of code reg i ∷ items_from code reg is),
        ap counted no,
        count-behind l i (items_from code reg is),
        once-from (at + i.insn.len) l is r.2 a,
      )

  pub once : (l : ℕ) → Rises 0 (length code) (listing code) → IsLabelIn (length code) (listing code) l
      → IsOnce (items_from code reg (listing code)) l
  once l r a = once-from 0 l (listing code) r a

  -- ---- the place for which a label stands

  place-here : (l : ℕ) (i : Placed) (is : List Placed) → i.place ≡ l → place_of l (items_from code reg (i ∷ is)) ≡ 0
  place-here l i is e = ap (λ b. if b then 0 else place_of l (item_of code reg i ∷ items_from code reg is)) (eq-eqb i.place l e)

  place-past : (l : ℕ) (i : Placed) (is : List Placed) → i.place ≢ l
      → place_of l (items_from code reg (i ∷ is)) ≡ suc (place_of l (items_from code reg is))
  place-past l i is other = grind (arith, ne_eqb, one-behind)

  abbrev first_or : Bool → ℕ → ℕ
  first_or b n = if b then 0 else n

  place-last : (l : ℕ) → place_of l (items_from code reg []) ≡ 0
  place-last l = by (length code == l)
    where
      by : (b : Bool) → first_or b 0 ≡ 0
      by true = refl
      by false = refl

  pub places-rise : (at a b : ℕ) (ps : List Placed) → Rises at (length code) ps → IsLabelIn (length code) ps a → a ≤ b
      → place_of a (items_from code reg ps) ≤ place_of b (items_from code reg ps)
  places-rise at a b [] r is le = omega (arith, place-last a, place-last b)
  places-rise at a b (i ∷ is) r (inl e) le = omega (arith, place-here a i is e)
  places-rise at a b (i ∷ is) r (inr later) le =
      let above = label-above (at + i.insn.len) (length code) a is r.2 later in
      omega (
        arith,
        place-past a i is (λ e. omega (arith, e, r.0, r.1, above)),
        place-past b i is (λ e. omega (arith, e, r.0, r.1, above, le)),
        places-rise (at + i.insn.len) a b is r.2 later le,
      )

  pub place-within : (l : ℕ) (ps : List Placed) → place_of l (items_from code reg ps) ≤ length ps
  place-within l [] = omega (arith, place-last l)
  place-within l (i ∷ is) = by (cases_eq i.place l) (place-within l is)
    where
      by : (i.place ≡ l) ⊎ (i.place ≢ l) → place_of l (items_from code reg is) ≤ length is
          → place_of l (items_from code reg (i ∷ is)) ≤ suc (length is)
      by (inl e) le = omega (arith, place-here l i is e)
      by (inr other) le = omega (arith, place-past l i is other, le)

  pub place-inside : (l : ℕ) (ps : List Placed) → IsStartIn ps l → place_of l (items_from code reg ps) < length ps
  place-inside l [] a = absurd a
  place-inside l (i ∷ is) (inl e) = omega (arith, place-here l i is e)
  place-inside l (i ∷ is) (inr a) = by (cases_eq i.place l) (place-inside l is a)
    where
      by : (i.place ≡ l) ⊎ (i.place ≢ l) → place_of l (items_from code reg is) < length is
          → place_of l (items_from code reg (i ∷ is)) < suc (length is)
      by (inl e) lt = omega (arith, place-here l i is e)
      by (inr other) lt = omega (arith, place-past l i is other, lt)
