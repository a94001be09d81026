-- The Load file of the components among parts is one.
use Rattle.std.proofs.Common.{◌≡◌, ℕ, ◌<◌, Bool, true, false, List, [], ◌∷◌, length, map, Option, Some, None}
use Rattle.std.proofs.Common.{refl, sym, ap, subst, ◌∙◌, arith, length-append}
use Rattle.std.proofs.lemmas.List.{append-nil}
use Rattle.std.proofs.lemmas.Bool.{eqb-true, eqb-false, eq-eqb, ne_eqb}
use Rattle.std.specs.Prelude.{◌==◌}
use Rattle.std.specs.List.{AllByRecursion, concat}
use Rattle.cap_components.specs.Parts.{Lent, held}
use Rattle.cap_components.proofs.PartsLemmas.{held-other, held-same}
use Rattle.cap_load.specs.Order.{comes_before, InOrder}
use Rattle.cap_load.specs.LoadFile.{tag_of}
use Rattle.cap_load.specs.Packing.{AreFull}
use Rattle.cap_load.specs.Laws.{OnePacked, ShortNotLong}
use Rattle.cap_load.proofs.Splits.{fronts_same, same_lent}
use Rattle.cap_load.proofs.Orders.{before_through}
use Rattle.cap_load.proofs.Parting.{before_itself}

-- ---- parts in order are known by what they hold

-- what holds of all tags holds of one that is held
all_held : (P : ℕ → Type 0) (ps : List Lent) (tag : ℕ) (bytes : List ℕ) → AllByRecursion P (map tag_of ps)
    → held ps tag ≡ Some bytes → P tag
all_held P [] tag bytes a h = absurd (cc)
all_held P (p ∷ ps) tag bytes a h = by (p.part == tag) refl (λ k. all_held P ps tag bytes a.1 k)
  where
    by : (b : Bool) → (p.part == tag) ≡ b → (held ps tag ≡ Some bytes → P tag) → P tag
    by true e rest = subst P (eqb-true p.part tag e) a.0
    by false e rest = rest (sym (held-other tag p ps e) ∙ h)

none_behind : (p : Lent) (ps : List Lent) → InOrder (map tag_of (p ∷ ps)) → held ps p.part ≡ None
none_behind p ps o = by (held ps p.part) refl
  where
    by : (h : Option (List ℕ)) → held ps p.part ≡ h → held ps p.part ≡ None
    by None e = e
    by (Some bytes) e =
        absurd (before_itself p.part p.part (all_held (λ t. comes_before p.part t ≡ true) ps p.part bytes o.1 e) refl)

-- a part of one list that is not the first of the other comes after that
comes_after : (p q : Lent) (ps qs : List Lent) → InOrder (map tag_of (q ∷ qs)) → ((tag : ℕ) → held (p ∷ ps) tag ≡ held (q ∷ qs) tag)
    → (q.part ≡ p.part → ⊥) → comes_before q.part p.part ≡ true
comes_after p q ps qs o same other =
    all_held (λ t. comes_before q.part t ≡ true) qs p.part p.bytes o.1
    (sym (held-other p.part q qs (ne_eqb q.part p.part other)) ∙ sym (same p.part) ∙ held-same p.part p ps (eq-eqb p.part p.part refl))

first_tag : (p q : Lent) (ps qs : List Lent) → InOrder (map tag_of (p ∷ ps)) → InOrder (map tag_of (q ∷ qs))
    → ((tag : ℕ) → held (p ∷ ps) tag ≡ held (q ∷ qs) tag) → p.part ≡ q.part
first_tag p q ps qs o u same = by (p.part == q.part) refl
  where
    by : (b : Bool) → (p.part == q.part) ≡ b → p.part ≡ q.part
    by true e = eqb-true p.part q.part e
    by false e =
        let other : p.part ≡ q.part → ⊥ = eqb-false p.part q.part e in
        let after = comes_after p q ps qs u same (λ h. other (sym h)) in
        let before = comes_after q p qs ps o (λ tag. sym (same tag)) other in
        absurd (before_itself p.part p.part (before_through p.part q.part p.part before after) refl)

first_bytes : (p q : Lent) (ps qs : List Lent) → p.part ≡ q.part → held (p ∷ ps) p.part ≡ held (q ∷ qs) p.part → p.bytes ≡ q.bytes
first_bytes p q ps qs e same = grind (arith, held-same, eq-eqb)

others_same : (p q : Lent) (ps qs : List Lent) → InOrder (map tag_of (p ∷ ps)) → InOrder (map tag_of (q ∷ qs)) → p.part ≡ q.part
    → ((tag : ℕ) → held (p ∷ ps) tag ≡ held (q ∷ qs) tag) → (tag : ℕ) → held ps tag ≡ held qs tag
others_same p q ps qs o u e same tag = by (p.part == tag) refl
  where
    by : (b : Bool) → (p.part == tag) ≡ b → held ps tag ≡ held qs tag
    by true h =
        let first : p.part ≡ tag = eqb-true p.part tag h in
        ap (held ps) (sym first) ∙ none_behind p ps o ∙ sym (none_behind q qs u) ∙ ap (held qs) (sym e ∙ first)
    by false h =
        sym (held-other tag p ps h) ∙ same tag ∙ held-other tag q qs (subst (λ (n : ℕ). (n == tag) ≡ false) e h)

one_chosen : (ps qs : List Lent) → InOrder (map tag_of ps) → InOrder (map tag_of qs) → ((tag : ℕ) → held ps tag ≡ held qs tag) → ps ≡ qs
one_chosen [] [] o u same = refl
one_chosen [] (q ∷ qs) o u same = absurd (cc (same q.part, held-same q.part q qs (eq-eqb q.part q.part refl)))
one_chosen (p ∷ ps) [] o u same = absurd (cc (same p.part, held-same p.part p ps (eq-eqb p.part p.part refl)))
one_chosen (p ∷ ps) (q ∷ qs) o u same =
    let tag = first_tag p q ps qs o u same in
    let first : p ≡ q = same_lent p.part q.part p.bytes q.bytes tag (first_bytes p q ps qs tag (same p.part)) in
    let rest : ps ≡ qs = one_chosen ps qs o.2 u.2 (others_same p q ps qs o u tag same) in
    cc

-- ---- contents are cut into full blocks in one way

some_full : (c : List ℕ) (cs : List (List ℕ)) → AreFull (c ∷ cs) → 0 < length (concat (c ∷ cs))
some_full c y f = grind (arith, length-append)

-- one block, where there are more
not_more : (b c d : List ℕ) (cs : List (List ℕ)) → AreFull (b ∷ []) → AreFull (c ∷ d ∷ cs) → concat (b ∷ []) ≡ concat (c ∷ d ∷ cs) → ⊥
not_more b c d cs f g e = grind (arith, some_full d cs g.1, length-append b [], length-append c (concat (d ∷ cs)))

one_cut : (bs cs : List (List ℕ)) → AreFull bs → AreFull cs → concat bs ≡ concat cs → bs ≡ cs
one_cut [] [] f g e = refl
one_cut [] (c ∷ cs) f g e = absurd (let lengths = ap length e in omega (arith, some_full c cs g))
one_cut (b ∷ bs) [] f g e = absurd (let lengths = ap length e in omega (arith, some_full b bs f))
one_cut (b ∷ []) (c ∷ []) f g e = ap (λ (x : List ℕ). x ∷ []) (sym (append-nil b) ∙ e ∙ append-nil c)
one_cut (b ∷ []) (c ∷ d ∷ cs) f g e = absurd (not_more b c d cs f g e)
one_cut (b ∷ d ∷ bs) (c ∷ []) f g e = absurd (not_more c b d bs g f (sym e))
one_cut (b ∷ d ∷ bs) (c ∷ k ∷ cs) f g e =
    let split = fronts_same b c (concat (d ∷ bs)) (concat (k ∷ cs)) (f.0 ∙ sym g.0) e in
    let first : b ≡ c = split.0 in
    let rest : d ∷ bs ≡ k ∷ cs = one_cut (d ∷ bs) (k ∷ cs) f.1 g.1 split.1 in
    cc

-- ---- what is packed

pub one_packed : OnePacked
one_packed parts bytes others a b = grind (arith, one_chosen, one_cut)

pub short_not_long : ShortNotLong
short_not_long parts bytes count packed short (others, again, size, long) = grind (arith, one_packed parts bytes others packed again)
