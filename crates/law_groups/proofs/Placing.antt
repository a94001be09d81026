-- Where the steps of groups and stubs stand.
use Rattle.std.proofs.Common.{◌≡◌, ℕ, suc, ◌+◌, ◌≤◌, Bool, true, false, if◌then◌else◌, List, [], ◌∷◌, ◌++◌}
use Rattle.std.proofs.Common.{length, flat_map, refl, sym, ap, ◌∙◌, subst, arith, append_assoc}
use Rattle.std.specs.Prelude.{Result, Ok, IsErr, cond, count_by, ◌==◌}
use Rattle.std.proofs.lemmas.Bool.{eq-eqb}
use Rattle.std.proofs.lemmas.List.Concat.{flat_map-cons}
use Rattle.std.proofs.lemmas.List.Sums.{sum_by-cons}
use Rattle.jc_decode.specs.declared.insn.CodeEnd.{CodeEnd}
use Rattle.jc_decode.specs.declared.insn.Insn.{Insn}
use Rattle.jc_decode.specs.declared.insn.Placed.{Placed}
use Rattle.jc_decode.specs.declared.symbols.Item.{Item}
use Rattle.jc_decode.specs.declared.symbols.Item.TheVariants.{Plain, Branch, Switch, Label}
use Rattle.jc_decode.specs.Decoding.{decoded}
use Rattle.jc_decode.specs.Listing.{listing, Lists}
use Rattle.jc_decode.specs.Symbols.{IsOnce, is_label, place_of, steps_in}
use Rattle.jc_decode.proofs.InstructionLists.{all-are-listed}
use Rattle.xf_homes.specs.Source.{Source}
use Rattle.xf_emission.specs.Emission.{items}
use Rattle.xf_emission.specs.Group.{group}
use Rattle.xf_emission.specs.Laws.{of_place}
use Rattle.xf_emission.proofs.GroupPlaces.{groups-stand}
use Rattle.xf_emission.proofs.Once.{labels-stand-once}
use Rattle.xf_emission.proofs.StubPlaces.{handlers-stand, stubs-stand}
use Rattle.law_groups.specs.Laid.{count_of}
use Rattle.law_groups.specs.Steps.{ItemsStandFrom, GroupsStandAtSteps, StubsStandAtSteps, HandlersStandAtSteps, GroupsFollow}
use Rattle.law_rewritten_typing.proofs.Ordered.{group-head}

-- ---- steps of items

module _ (source : List ℕ) (all : List Item) where
  pub steps-append : (xs ys : List Item) → steps_in source all (xs ++ ys) ≡ steps_in source all xs ++ steps_in source all ys
  steps-append [] ys = refl
  steps-append (Label l ∷ xs) ys = steps-append xs ys
  steps-append (Plain i ∷ xs) ys = ap (λ ss. record { insn = i; targets = []; keys = [] } ∷ ss) (steps-append xs ys)
  steps-append (Branch op l ∷ xs) ys = let e = steps-append xs ys in cc
  steps-append (Switch i at ls ∷ xs) ys = let e = steps-append xs ys in cc

  pub steps-count : (xs : List Item) → length (steps_in source all xs) ≡ count_of xs
  steps-count [] = refl
  steps-count (Label l ∷ xs) = steps-count xs
  steps-count (Plain i ∷ xs) = ap suc (steps-count xs)
  steps-count (Branch op l ∷ xs) = ap suc (steps-count xs)
  steps-count (Switch i at ls ∷ xs) = ap suc (steps-count xs)

pub count-append : (xs ys : List Item) → count_of (xs ++ ys) ≡ count_of xs + count_of ys
count-append [] ys = omega arith
count-append (Label l ∷ xs) ys = count-append xs ys
count-append (Plain i ∷ xs) ys = omega (arith, count-append xs ys)
count-append (Branch op l ∷ xs) ys = omega (arith, count-append xs ys)
count-append (Switch i at ls ∷ xs) ys = omega (arith, count-append xs ys)

-- the steps of items that stand so among all stand from their number on
stand-parts :
    (s : Source) (n : ℕ) (before is after : List Item)
    → items s ≡ before ++ (is ++ after)
    → n ≡ count_of before
    → ItemsStandFrom s n is
stand-parts s n before is after e at =
    grind (
      arith,
      steps-append s.method.code (items s) before (is ++ after),
      steps-append s.method.code (items s) is after,
      steps-count s.method.code (items s) before,
    )

pub groups-stand-at-steps : GroupsStandAtSteps
groups-stand-at-steps s i code stands reached = grind (arith, groups-stand s code i stands reached, stand-parts, flat_map)

pub stubs-stand-at-steps : StubsStandAtSteps
stubs-stand-at-steps s i op n k t code stands reached does asks target some =
    grind (arith, stubs-stand s code i op n k t stands reached does asks target some, stand-parts)

pub handlers-stand-at-steps : HandlersStandAtSteps
handlers-stand-at-steps s n h code listed live =
    let g = handlers-stand s code n h listed live in
    stand-parts s _ g.before _ g.after g.parts g.at

-- ---- a label that stands once

-- a label is no label of items before it that has it once
module _ (l : ℕ) where
  counted-after : (before after : List Item) → 1 ≤ count_by (is_label l) (before ++ Label l ∷ after)
  counted-after [] after =
      let e = sum_by-cons (λ i. if is_label l i then 1 else 0) (Label l) after in
      let here : is_label l (Label l) ≡ true = eq-eqb l l refl in
      let one : cond {A = ℕ} (is_label l (Label l)) 1 0 ≡ 1 = ap (λ b. cond {A = ℕ} b 1 0) here in
      omega (arith, e, one)
  counted-after (x ∷ before) after =
      let e = sum_by-cons (λ i. if is_label l i then 1 else 0) x (before ++ Label l ∷ after) in
      omega (arith, e, counted-after before after)

  one-less : (x : Item) (rest : List Item) → is_label l x ≡ false → count_by (is_label l) (x ∷ rest) ≡ 1 → count_by (is_label l) rest ≡ 1
  one-less x rest none once = grind (arith, sum_by-cons)

  not-twice : (x : Item) (before after : List Item) → is_label l x ≡ true → ¬ (count_by (is_label l) (x ∷ (before ++ Label l ∷ after)) ≡ 1)
  not-twice x before after here once =
      let e : count_by (is_label l) (x ∷ (before ++ Label l ∷ after))
      ≡ cond {A = ℕ} (is_label l x) 1 0 + count_by (is_label l) (before ++ Label l ∷ after) =
      sum_by-cons (λ i. cond {A = ℕ} (is_label l i) 1 0) x (before ++ Label l ∷ after) in
      let one : cond {A = ℕ} (is_label l x) 1 0 ≡ 1 = ap (λ b. cond {A = ℕ} b 1 0) here in
      let more = counted-after before after in
      omega (arith, e, one, once, more)

  pub place-once :
      (before after : List Item)
      → IsOnce (before ++ Label l ∷ after) l
      → place_of l (before ++ Label l ∷ after) ≡ count_of before
  place-once [] after once = ap (λ b. cond {A = ℕ} b 0 (place_of l after)) (eq-eqb l l refl)
  place-once (Plain i ∷ before) after once =
      ap suc (place-once before after (one-less (Plain i) (before ++ Label l ∷ after) refl once))
  place-once (Branch op m ∷ before) after once =
      ap suc (place-once before after (one-less (Branch op m) (before ++ Label l ∷ after) refl once))
  place-once (Switch i at ls ∷ before) after once =
      ap suc (place-once before after (one-less (Switch i at ls) (before ++ Label l ∷ after) refl once))
  place-once (Label m ∷ before) after once = by (m == l) refl (λ h. place-once before after h)
    where
      by :
          (b : Bool)
          → (m == l) ≡ b
          → (IsOnce (before ++ Label l ∷ after) l → place_of l (before ++ Label l ∷ after) ≡ count_of before)
          → cond {A = ℕ} b 0 (place_of l (before ++ Label l ∷ after)) ≡ count_of before
      by true e rest = absurd (not-twice (Label m) before after e once)
      by false e rest = rest (one-less (Label m) (before ++ Label l ∷ after) e once)

-- ---- the group that follows

-- in a list of instructions, what comes after one begins where it ends
lists-after :
    (code : List ℕ) (at : ℕ) (earlier : List Placed) (i : Placed) (later : List Placed)
    → Lists code at (earlier ++ i ∷ later)
    → Lists code (i.place + i.insn.len) later
lists-after code at [] i later h = subst (λ p. Lists code (p + i.insn.len) later) (sym h.0) h.2
lists-after code at (e ∷ earlier) i later h = lists-after code (at + e.insn.len) earlier i later h.2

-- an instruction that stands in the code has its place in the listing once: the next one begins the rest
module _ (code : List ℕ) (lists : Lists code 0 (listing code)) where
  pub starts-later :
      (later : List Placed) (at : ℕ) (j : Placed)
      → Lists code at later
      → decoded code j.place ≡ Ok j.insn
      → j.place ≡ at
      → (rest : List Placed) × (later ≡ j ∷ rest)
  starts-later [] at j h d e = absurd (not-error j.insn (subst (λ r. IsErr r) (ap (decoded code) (sym e) ∙ d) h))
    where
      not-error : (x : Insn) → IsErr {T = Insn} {E = CodeEnd} (Ok x) → ⊥
      not-error x e = absurd (cc)
  starts-later (k ∷ rest) at j h d e =
      let same : k.insn ≡ j.insn = ok-is (sym h.1 ∙ ap (decoded code) (sym e) ∙ d) in
      let there : k.place ≡ j.place = h.0 ∙ sym e in
      let whole : k ≡ j = placed-is k j there same in
      (rest, ap (λ x. x ∷ rest) whole)
    where
      ok-is : {a b : Insn} → ◌≡◌ {A = Result Insn CodeEnd} (Ok a) (Ok b) → a ≡ b
      ok-is e = cc

      placed-is : (a b : Placed) → a.place ≡ b.place → a.insn ≡ b.insn → a ≡ b
      placed-is a b p q = ap (λ n. record { place = n; insn = a.insn }) p ∙ ap (λ n. record { place = b.place; insn = n }) q

pub groups-follow : GroupsFollow
groups-follow s i j code stands reached next also at =
    let g = groups-stand s code i stands reached in
    let lists : Lists s.method.code (i.place + i.insn.len) g.later =
    lists-after s.method.code 0 g.earlier i g.later (subst (Lists s.method.code 0) g.listed code.lists) in
    let d = (all-are-listed s.method.code).decodes j next in
    let l = starts-later s.method.code code.lists g.later (i.place + i.insn.len) j lists d at in
    let b = group-head s j also in
    let tail : flat_map (group s) g.later ++ g.after
    ≡ Label j.place ∷ (b.0 ++ (flat_map (group s) l.0 ++ g.after)) =
    ap (λ ps. flat_map (group s) ps ++ g.after) l.1
    ∙ (ap (λ xs. xs ++ g.after) (flat_map-cons (group s) j l.0)
    ∙ (append_assoc (group s j) (flat_map (group s) l.0) g.after
    ∙ ap (λ xs. xs ++ (flat_map (group s) l.0 ++ g.after)) b.1)) in
    let parts : items s ≡ (g.before ++ group s i) ++ Label j.place ∷ (b.0 ++ (flat_map (group s) l.0 ++ g.after)) =
    g.parts
    ∙ (ap (λ xs. g.before ++ (group s i ++ xs)) tail
    ∙ sym (append_assoc g.before (group s i) (Label j.place ∷ (b.0 ++ (flat_map (group s) l.0 ++ g.after))))) in
    let one : IsOnce ((g.before ++ group s i) ++ Label j.place ∷ (b.0 ++ (flat_map (group s) l.0 ++ g.after))) j.place =
    subst (λ xs. IsOnce xs j.place) parts (labels-stand-once s code j.place (of_place next also)) in
    ap (place_of j.place) parts
    ∙ (place-once j.place (g.before ++ group s i) (b.0 ++ (flat_map (group s) l.0 ++ g.after)) one
    ∙ (count-append g.before (group s i) ∙ ap (λ n. n + count_of (group s i)) (sym g.at)))
