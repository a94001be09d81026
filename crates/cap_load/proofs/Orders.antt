-- Tags in order.
use Rattle.std.proofs.Common.{◌≡◌, ℕ, Bool, true, false, List, [], ◌∷◌, ◌++◌, Option, Some, None, IsSome, is_none, refl, sym, ap}
use Rattle.std.proofs.Common.{subst, ◌∙◌, arith, if◌then◌else◌}
use Rattle.std.proofs.lemmas.Bool.{ltb-true, lt-ltb}
use Rattle.std.specs.List.{AllByRecursion}
use Rattle.cap_load.specs.declared.fault.StreamFault.TheVariants.{NoTag}
use Rattle.cap_load.specs.Order.{place, comes_before, InOrder}
use Rattle.cap_load.specs.Loaded.{IsLast}
use Rattle.cap_load.specs.Reading.{tag_fault, order_fault}

pub all_push : {X : Type 0} (P : X → Type 0) (xs : List X) (x : X) → AllByRecursion P xs → P x → AllByRecursion P (xs ++ x ∷ [])
all_push P [] x a p = (p, tt {0})
all_push P (y ∷ ys) x a p = (a.0, all_push P ys x a.1 p)

pub all_last : {X : Type 0} (P : X → Type 0) (xs : List X) (x : X) → AllByRecursion P (xs ++ x ∷ []) → P x
all_last P [] x a = a.0
all_last P (y ∷ ys) x a = all_last P ys x a.1

pub before_through : (a b c : ℕ) → comes_before a b ≡ true → comes_before b c ≡ true → comes_before a c ≡ true
unfolding comes_before
before_through a b c h k = grind (arith, lt-ltb, ltb-true)

before_placed : (a b : ℕ) → comes_before a b ≡ true → IsSome (place b)
unfolding comes_before
before_placed a b h = grind (arith)

-- a tag after the last of tags in order
order_push : (front : List ℕ) (a b : ℕ) → InOrder (front ++ a ∷ []) → comes_before a b ≡ true → InOrder ((front ++ a ∷ []) ++ b ∷ [])
order_push [] a b o h = (o.0, (h, tt {0}), (before_placed a b h, tt {0}, tt {0}))
order_push (x ∷ front) a b o h =
    let last : comes_before x a ≡ true = all_last (λ later. comes_before x later ≡ true) front a o.1 in
    (o.0, all_push (λ later. comes_before x later ≡ true) (front ++ a ∷ []) b o.1 (before_through x a b last h), order_push front a b o.2 h)

-- what is known where a tag shows no fault
pub record Passes (last : Option ℕ) (tag : ℕ) : Type 0 where
  pub placed : IsSome (place tag)
  pub after : (first : ℕ) → last ≡ Some first → comes_before first tag ≡ true

order_passes : (last : Option ℕ) (tag first : ℕ) → order_fault last tag ≡ None → last ≡ Some first → comes_before first tag ≡ true
order_passes None tag first e h = absurd (cc)
order_passes (Some other) tag first e h = by (comes_before other tag) refl
  where
    by : (b : Bool) → comes_before other tag ≡ b → comes_before first tag ≡ true
    by true t = ap (λ (n : ℕ). comes_before n tag) (let same : first ≡ other = cc in same) ∙ t
    by false t = absurd (cc (e, t))

pub passes : (last : Option ℕ) (tag : ℕ) → tag_fault last tag ≡ None → Passes last tag
unfolding tag_fault
passes last tag e = by (place tag) refl
  where
    by : (o : Option ℕ) → place tag ≡ o → Passes last tag
    by None p = absurd (cc (e, p))
    by (Some n) p =
        let passed : order_fault last tag ≡ None = subst (λ (o : Option ℕ). (if is_none o then Some (NoTag tag) else order_fault last tag) ≡ None) p e in
        let there : IsSome (place tag) = subst (λ (o : Option ℕ). IsSome o) (sym p) refl in
        record { placed = there; after = λ first h. order_passes last tag first passed h }

-- the tags of components in order, and one more
pub tag_more : (tags : List ℕ) (last : Option ℕ) (tag : ℕ) → InOrder tags → IsLast last tags → tag_fault last tag ≡ None
    → InOrder (tags ++ tag ∷ [])
tag_more tags None tag o l e = subst (λ (ts : List ℕ). InOrder (ts ++ tag ∷ [])) (sym l) ((passes None tag e).placed, tt {0}, tt {0})
tag_more tags (Some first) tag o l e =
    grind (arith, order_push l.0 first tag (subst InOrder l.1 o) ((passes (Some first) tag e).after first refl))
