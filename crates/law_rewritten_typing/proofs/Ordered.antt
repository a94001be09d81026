-- No range of a rewritten method is empty: the first group in it has an instruction.
use Rattle.std.proofs.Common.{◌≡◌, ℕ, suc, ◌+◌, ◌-◌, ◌<◌, ◌≤◌, ◌==◌, Bool, true, false, if◌then◌else◌, inl, inr, List, []}
use Rattle.std.proofs.Common.{◌∷◌, ◌++◌, length, flat_map, slice_get, Option, Some, None, refl, sym, ◌∙◌, ap, subst, arith}
use Rattle.std.specs.Prelude.{is_some}
use Rattle.std.proofs.lemmas.Bool.Decides.{nat_tests}
use Rattle.std.proofs.lemmas.List.Elements.{All-contains}
use Rattle.std.proofs.lemmas.Bool.{eqb-true}
use Rattle.jc_base.specs.Each.{Each, IsAmong}
use Rattle.jc_base.specs.declared.record.Handler.{Handler}
use Rattle.jc_decode.specs.declared.insn.Placed.{Placed}
use Rattle.jc_decode.specs.declared.symbols.Item.{Item}
use Rattle.jc_decode.specs.declared.symbols.Item.TheVariants.{Plain, Branch, Switch, Label}
use Rattle.jc_decode.specs.declared.symbols.Range.{Range}
use Rattle.jc_decode.specs.Laws.{AreListed}
use Rattle.jc_decode.specs.Symbols.{place_of}
use Rattle.jc_decode.proofs.Elements.{Contains-slice_get}
use Rattle.jc_control.specs.WellFormed.{IsPlace, IsBoundary, IsHandlerOf, HasInstruction as IsListed}
use Rattle.jc_rules.specs.Demand.{Frame}
use Rattle.xf_homes.proofs.Events.{among-right}
use Rattle.xf_homes.specs.Source.{Source}
use Rattle.xf_homes.specs.Plan.{stack_homes, first_reached, is_leader, operation}
use Rattle.xf_emission.specs.Move.{loads}
use Rattle.xf_emission.specs.Jump.{handler_label}
use Rattle.xf_emission.specs.Group.{done, group_by, group}
use Rattle.xf_emission.specs.Emission.{is_live, range, ranges_from, items}
use Rattle.xf_emission.specs.Laws.{IsCode, HasFrames}
use Rattle.xf_emission.proofs.Labels.{labels, labels-append, group-label}
use Rattle.xf_emission.proofs.Live.{IsFirst, is-first}
use Rattle.xf_emission.proofs.Rises.{Rises}
use Rattle.xf_emission.proofs.GroupPlaces.{groups-stand}
use Rattle.xf_emission.proofs.Stubs.{all-rise}
use Rattle.law_rewritten_typing.proofs.Walks.{count}
use Rattle.law_rewritten_typing.proofs.Bridge.{among-above}

pub rises-before : (low high a l : ℕ) (xs ys : List ℕ) → Rises low high (xs ++ a ∷ ys) → IsAmong l xs → l < a
rises-before low high a l [] ys r c = absurd c
rises-before low high a l (x ∷ xs) ys r (inl e) = omega (arith, e, among-above (suc x) high a (xs ++ a ∷ ys) r.2 (among-right a xs (a ∷ ys) (inl refl)))
rises-before low high a l (x ∷ xs) ys r (inr c) = rises-before (suc x) high a l xs ys r.2 c

-- items without a label come before its place
skip : (b : ℕ) (xs ys : List Item) → (IsAmong b (labels xs) → ⊥) → place_of b (xs ++ ys) ≡ count xs + place_of b ys
skip b [] ys apart = omega arith
skip b (Plain i ∷ xs) ys apart = omega (arith, skip b xs ys apart)
skip b (Branch op l ∷ xs) ys apart = omega (arith, skip b xs ys apart)
skip b (Switch i at ls ∷ xs) ys apart = omega (arith, skip b xs ys apart)
skip b (Label m ∷ xs) ys apart = by (m == b) refl (skip b xs ys (λ a. apart (inr a)))
  where
    by : (c : Bool) → (m == b) ≡ c → place_of b (xs ++ ys) ≡ count xs + place_of b ys → (if c then 0 else place_of b (xs ++ ys))
        ≡ count xs + place_of b ys
    by true e rest = absurd (apart (inl (eqb-true m b e)))
    by false e rest = rest

-- a label is placed no later than where it stands
no-later : (a : ℕ) (xs ys : List Item) → place_of a (xs ++ Label a ∷ ys) ≤ count xs
no-later a [] ys = by (a == a) refl
  where
    itself : (k : ℕ) → (k == k) ≡ true
    itself k = grind (arith, nat_tests)

    differ : (c : Bool) → c ≡ true → c ≡ false → ⊥
    differ c e f = absurd (cc)

    by : (c : Bool) → (a == a) ≡ c → (if c then 0 else place_of a ys) ≤ 0
    by x e = grind (arith)
no-later a (Plain i ∷ xs) ys = omega (arith, no-later a xs ys)
no-later a (Branch op l ∷ xs) ys = omega (arith, no-later a xs ys)
no-later a (Switch i at ls ∷ xs) ys = omega (arith, no-later a xs ys)
no-later a (Label m ∷ xs) ys = by (m == a) (no-later a xs ys)
  where
    by : (c : Bool) → place_of a (xs ++ Label a ∷ ys) ≤ count xs → (if c then 0 else place_of a (xs ++ Label a ∷ ys)) ≤ count xs
    by x rest = grind (arith)

module _ (s : Source) where
  pub group-head : (i : Placed) → is_some (s.frames i.place) ≡ true → (t : List Item) × (group s i ≡ Label i.place ∷ t)
  unfolding group
  group-head i reached = by (s.frames i.place) reached
    where
      by : (f : Option Frame) → is_some f ≡ true → (t : List Item) × (group_by s i f ≡ Label i.place ∷ t)
      by None e = absurd (cc)
      by (Some f) e = ((if is_leader s i.place then loads s (stack_homes s i.place) else []) ++ done s i (operation s i), refl)

  module _ (code : IsCode s) where
    -- a label after that of a group with an instruction stands for a later place
    group-before : (i : Placed) → IsListed s.method.code i → is_some (s.frames i.place) ≡ true → 0 < count (group s i) → (b : ℕ) → i.place < b
        → place_of i.place (items s) < place_of b (items s)
    group-before i st reached some b lt =
        let g = groups-stand s code i st reached in
        let rest : List Item = flat_map (group s) g.later ++ g.after in
        let h = group-head i reached in
        let parts : items s ≡ g.before ++ Label i.place ∷ (h.0 ++ rest) = g.parts ∙ ap (λ (xs : List Item). g.before ++ (xs ++ rest)) h.1 in
        let ls : labels (items s) ≡ labels g.before ++ i.place ∷ labels (h.0 ++ rest) = ap labels parts
        ∙ labels-append g.before (Label i.place ∷ (h.0 ++ rest)) in
        let rise : Rises 0 (handler_label 256) (labels g.before ++ i.place ∷ labels (h.0 ++ rest)) = subst (Rises 0 (handler_label 256)) ls
        (all-rise s code.bytes code.lists code.short code.few) in
        let low : place_of i.place (items s) ≤ count g.before = subst (λ (xs : List Item). place_of i.place xs ≤ count g.before) (sym parts)
        (no-later i.place g.before (h.0 ++ rest)) in
        let first : place_of b (g.before ++ (group s i ++ rest)) ≡ count g.before + place_of b (group s i ++ rest) =
        skip b g.before (group s i ++ rest)
        (λ c. let early = rises-before 0 (handler_label 256) i.place b (labels g.before) (labels (h.0 ++ rest)) rise c in
        absurd (omega (arith, early, lt))) in
        let second : place_of b (group s i ++ rest) ≡ count (group s i) + place_of b rest = skip b (group s i) rest
        (λ c. not-own (subst (IsAmong b) (group-label s i ∙ ap (λ (y : Bool). if y then i.place ∷ [] else []) reached) c)) in
        let whole : place_of b (items s) ≡ place_of b (g.before ++ (group s i ++ rest)) = ap (place_of b) g.parts in
        omega (arith, low, first, second, whole, some)
      where
        not-own : IsAmong b (i.place ∷ []) → ⊥
        not-own (inl e) = absurd (omega (arith, e, lt))
        not-own (inr c) = absurd c

    module _ (listed : AreListed s.method.code) (has : HasFrames s)
        (full : (i : Placed) → IsListed s.method.code i → is_some (s.frames i.place) ≡ true → 0 < count (group s i)) where
      end-inside : (h : Handler) → IsHandlerOf s.method.code h → h.end ≤ length s.method.code
      end-inside h is = by is.end
        where
          by : IsBoundary s.method.code h.end → h.end ≤ length s.method.code
          by (inl e) = omega (arith, e)
          by (inr (i, st, e)) = omega (arith, listed.inside i st, e)

      first-is : (p : ℕ) → IsFirst s.frames p (length s.method.code - p) (first_reached s p)
      unfolding first_reached
      first-is p = is-first s.frames p (length s.method.code - p)

      abbrev pub IsFilled : Range → Type 0
      IsFilled q = place_of q.from (items s) < place_of q.to (items s)

      range-filled : (n : ℕ) (h : Handler) → IsHandlerOf s.method.code h → is_live s h ≡ true → IsFilled (range s n h)
      range-filled n h is live =
          let f = first-is h.start in
          let to = first-is h.end in
          let lt : first_reached s h.start < h.end = grind (arith, nat_tests, live) in
          let end = end-inside h is in
          let some : is_some (s.frames (first_reached s h.start)) ≡ true = f.there (omega (arith, f.from, lt, end)) in
          let p : IsPlace s.method.code (first_reached s h.start) = has.placed (first_reached s h.start) ((has.reached (first_reached s h.start)).0 some) in
          let own : is_some (s.frames p.0.place) ≡ true = ap (λ (q : ℕ). is_some (s.frames q)) p.2 ∙ some in
          let later : p.0.place < first_reached s h.end = omega (arith, p.2, lt, to.from) in
          subst (λ (q : ℕ). place_of q (items s) < place_of (first_reached s h.end) (items s)) p.2
          (group-before p.0 p.1 own (full p.0 p.1 own) (first_reached s h.end) later)

      pub ranges-filled : (n : ℕ) (hs : List Handler) → ((j : ℕ) (h : Handler) → slice_get hs j ≡ Some h → IsHandlerOf s.method.code h)
          → Each IsFilled (ranges_from s n hs)
      ranges-filled n [] are = tt
      ranges-filled n (h ∷ hs) are = by (is_live s h) refl (ranges-filled (suc n) hs (λ j k e. are (suc j) k e))
        where
          by : (b : Bool) → is_live s h ≡ b → Each IsFilled (ranges_from s (suc n) hs)
              → Each IsFilled ((if b then range s n h ∷ [] else []) ++ ranges_from s (suc n) hs)
          by true live rest = (range-filled n h (are 0 h refl) live, rest)
          by false live rest = rest

      pub handlers-are : (j : ℕ) (h : Handler) → slice_get s.method.rec.handlers j ≡ Some h → IsHandlerOf s.method.code h
      handlers-are j h e = All-contains (IsHandlerOf s.method.code) s.method.rec.handlers h has.formed.handlers (Contains-slice_get s.method.rec.handlers j h e)
