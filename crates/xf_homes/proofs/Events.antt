-- What is kept of a list of events at rising spots: each pair once, at the first spot at which it is met.
use Rattle.std.proofs.Common.{◌≡◌, ℕ, ◌⊎◌, inl, inr, Bool, true, false, ◌||◌, if◌then◌else◌, List, [], ◌∷◌, ◌++◌}
use Rattle.std.proofs.Common.{Option, Some, None, refl, sym, ◌∙◌, ap, subst, arith, append_assoc}
use Rattle.std.specs.Prelude.{fold}
use Rattle.std.specs.List.{list_any}
use Rattle.std.proofs.lemmas.Bool.{false≢true, and_parts, and_from}
use Rattle.std.proofs.lemmas.Bool.Decides.{nat_tests}
use Rattle.std.proofs.lemmas.List.{append-nil}
use Rattle.jc_base.specs.declared.ty.Ty.{Ty}
use Rattle.jc_base.specs.Each.{Each, IsAmong}
use Rattle.jc_base.specs.Laws.{SameTypeDecides}
use Rattle.jc_base.proofs.Eaching.{Each-from_among, IsAmong-append_cases}
use Rattle.xf_homes.specs.declared.home.Home.{Home}
use Rattle.xf_homes.specs.Home.{PairSpot, ComesBefore}
use Rattle.xf_homes.specs.Walk.{Event, same_home, has, with_home_of_value, with_event, with_events}

-- ---- events

-- the pair is met at the spot of this event
pub record IsAt (e : Event) (s : PairSpot) (h : Home) : Type 0 where
  pub spot : e.spot ≡ s
  pub slot : e.spot.slot ≡ h.slot
  pub value : e.value ≡ Some h.ty

-- or at that of one of the events
abbrev pub Occurs : List Event → PairSpot → Home → Type 0
Occurs [] s h = ⊥
Occurs (e ∷ es) s h = IsAt e s h ⊎ Occurs es s h

abbrev pub Rising : List Event → Type 0
Rising [] = Unit {0}
Rising (e ∷ es) = Each (λ k. ComesBefore e.spot k.spot) es × Rising es

-- one pair is met at a spot before each at which the other is
pub record OccursBefore (es : List Event) (h k : Home) : Type 0 where
  pub spot : PairSpot
  pub at : Occurs es spot h
  pub first : (other : PairSpot) → Occurs es other k → ComesBefore spot other

abbrev pub Ordered : List Event → List Home → Type 0
Ordered es [] = Unit {0}
Ordered es (h ∷ hs) = Each (OccursBefore es h) hs × Ordered es hs

-- what came after those that were there
pub record Kept (before : List Home) (es : List Event) (after : List Home) : Type 0 where
  pub new : List Home
  pub parts : after ≡ before ++ new
  pub met : (h : Home) → IsAmong h new → (s : PairSpot) × Occurs es s h
  pub fresh : (h : Home) → IsAmong h new → ¬ (IsAmong h before)
  pub all : (h : Home) (s : PairSpot) → Occurs es s h → ¬ (IsAmong h before) → IsAmong h new
  pub order : Ordered es new

-- ---- elements

pub among-left : {X : Type 0} (x : X) (xs ys : List X) → IsAmong x xs → IsAmong x (xs ++ ys)
among-left x [] ys a = absurd a
among-left x (y ∷ xs) ys (inl e) = inl e
among-left x (y ∷ xs) ys (inr a) = inr (among-left x xs ys a)

pub among-right : {X : Type 0} (x : X) (xs ys : List X) → IsAmong x ys → IsAmong x (xs ++ ys)
among-right x [] ys a = a
among-right x (y ∷ xs) ys a = inr (among-right x xs ys a)

pub each-occurs : (P : PairSpot → Type 0) (es : List Event) (s : PairSpot) (h : Home) → Each (λ e. P e.spot) es → Occurs es s h → P s
each-occurs P [] s h each o = absurd o
each-occurs P (e ∷ es) s h each (inl at) = subst P at.spot each.0
each-occurs P (e ∷ es) s h each (inr o) = each-occurs P es s h each.1 o

-- ---- equal homes

module _ (same : SameTypeDecides) where
  pub homes-equal : (a b : Home) → same_home a b ≡ true → a ≡ b
  homes-equal a b h = grind (arith, and_parts, nat_tests)

  pub home-itself : (a : Home) → same_home a a ≡ true
  home-itself a = grind (arith, nat_tests, and_from)

  pub has-among : (homes : List Home) (h : Home) → has homes h ≡ true → IsAmong h homes
  unfolding has
  has-among [] h e = absurd (cc)
  has-among (k ∷ ks) h e = by (same_home k h) refl e (λ r. has-among ks h r)
    where
      by : (b : Bool) → same_home k h ≡ b → (b || list_any (λ j. same_home j h) ks) ≡ true
          → (list_any (λ j. same_home j h) ks ≡ true → IsAmong h ks) → IsAmong h (k ∷ ks)
      by true q r rest = inl (homes-equal k h q)
      by false q r rest = inr (rest r)

  pub among-has : (homes : List Home) (h : Home) → IsAmong h homes → has homes h ≡ true
  unfolding has
  among-has [] h a = absurd a
  among-has (k ∷ ks) h (inl e) = let q : same_home k h ≡ true = subst (λ j. same_home k j ≡ true) e (home-itself k) in rw q refl
  among-has (k ∷ ks) h (inr a) = by (same_home k h) (among-has ks h a)
    where
      by : (b : Bool) → list_any (λ j. same_home j h) ks ≡ true → (b || list_any (λ j. same_home j h) ks) ≡ true
      by true r = refl
      by false r = r

  -- ---- an event that adds nothing

  module _ (e : Event) (es : List Event) where
    before-more : {h k : Home} → ((s : PairSpot) → IsAt e s k → ⊥) → OccursBefore es h k → OccursBefore (e ∷ es) h k
    before-more {h} {k} never b = record { spot = b.spot; at = inr b.at; first = λ other o. split other o }
      where
        split : (other : PairSpot) → IsAt e other k ⊎ Occurs es other k → ComesBefore b.spot other
        split other (inl at) = absurd (never other at)
        split other (inr o) = b.first other o

    each-more : (h : Home) (ks : List Home) → ((k : Home) → IsAmong k ks → (s : PairSpot) → IsAt e s k → ⊥) → Each (OccursBefore es h) ks
        → Each (OccursBefore (e ∷ es) h) ks
    each-more h [] never each = tt
    each-more h (k ∷ ks) never each = (before-more (never k (inl refl)) each.0, each-more h ks (λ j a. never j (inr a)) each.1)

    ordered-more : (ks : List Home) → ((k : Home) → IsAmong k ks → (s : PairSpot) → IsAt e s k → ⊥) → Ordered es ks → Ordered (e ∷ es) ks
    ordered-more [] never o = tt
    ordered-more (k ∷ ks) never o = (each-more k ks (λ j a. never j (inr a)) o.0, ordered-more ks (λ j a. never j (inr a)) o.1)

    -- what it would meet is there, or nothing is
    skipped : (before after : List Home) → ((h : Home) (s : PairSpot) → IsAt e s h → IsAmong h before) → Kept before es after
        → Kept before (e ∷ es) after
    skipped before after there k = record {
      new = k.new;
      parts = k.parts;
      met = λ h a. let m = k.met h a in (m.0, inr m.1);
      fresh = k.fresh;
      all = λ h s o n. split h s n o;
      order = ordered-more k.new (λ h a s at. k.fresh h a (there h s at)) k.order;
    }
      where
        split : (h : Home) (s : PairSpot) → ¬ (IsAmong h before) → IsAt e s h ⊎ Occurs es s h → IsAmong h k.new
        split h s n (inl at) = absurd (n (there h s at))
        split h s n (inr o) = k.all h s o n

    -- the pair is new
    added : (before after : List Home) (home : Home) → ((h : Home) (s : PairSpot) → IsAt e s h → home ≡ h) → IsAt e e.spot home
        → ¬ (IsAmong home before)
        → Each (λ k. ComesBefore e.spot k.spot) es → Kept (before ++ home ∷ []) es after → Kept before (e ∷ es) after
    added before after home only here none rises k = record {
      new = home ∷ k.new;
      parts = k.parts ∙ append_assoc before (home ∷ []) k.new;
      met = λ h a. meets h a;
      fresh = λ h a. not-there h a;
      all = λ h s o n. covers h s n o;
      order = (Each-from_among (OccursBefore (e ∷ es) home) k.new (λ h a. comes h a), ordered-more k.new (λ h a s at. apart h a (only h s at)) k.order);
    }
      where
        apart : (h : Home) → IsAmong h k.new → home ≡ h → ⊥
        apart h a e = k.fresh h a (among-right h before (home ∷ []) (inl e))

        meets : (h : Home) → (home ≡ h) ⊎ IsAmong h k.new → (s : PairSpot) × Occurs (e ∷ es) s h
        meets h (inl same_is) = (e.spot, inl (subst (IsAt e e.spot) same_is here))
        meets h (inr a) = let m = k.met h a in (m.0, inr m.1)

        not-there : (h : Home) → (home ≡ h) ⊎ IsAmong h k.new → ¬ (IsAmong h before)
        not-there h (inl same_is) = λ b. none (subst (λ j. IsAmong j before) (sym same_is) b)
        not-there h (inr a) = λ b. k.fresh h a (among-left h before (home ∷ []) b)

        later : (h : Home) (s : PairSpot) → ¬ (IsAmong h before) → Occurs es s h → (b : Bool) → same_home home h ≡ b → (home ≡ h)
            ⊎ IsAmong h k.new
        later h s n o true q = inl (homes-equal home h q)
        later h s n o false q = inr (k.all h s o (λ a. split (IsAmong-append_cases h before (home ∷ []) a)))
          where
            split : IsAmong h before ⊎ IsAmong h (home ∷ []) → ⊥
            split (inl b) = n b
            split (inr (inl same_is)) = false≢true (sym q ∙ subst (λ j. same_home home j ≡ true) same_is (home-itself home))
            split (inr (inr none_there)) = none_there

        covers : (h : Home) (s : PairSpot) → ¬ (IsAmong h before) → IsAt e s h ⊎ Occurs es s h → (home ≡ h) ⊎ IsAmong h k.new
        covers h s n (inl at) = inl (only h s at)
        covers h s n (inr o) = later h s n o (same_home home h) refl

        comes : (h : Home) → IsAmong h k.new → OccursBefore (e ∷ es) home h
        comes h a = record { spot = e.spot; at = inl here; first = λ other o. split other o }
          where
            split : (other : PairSpot) → IsAt e other h ⊎ Occurs es other h → ComesBefore e.spot other
            split other (inl at) = absurd (apart h a (only h other at))
            split other (inr o) = each-occurs (ComesBefore e.spot) es other h rises o

  -- ---- all events

  some-type : {a b : Ty} → ◌≡◌ {A = Option Ty} (Some a) (Some b) → a ≡ b
  some-type e = cc

  nothing-met : {a : Ty} → ◌≡◌ {A = Option Ty} None (Some a) → ⊥
  nothing-met e = absurd (cc)

  pub kept : (es : List Event) (before : List Home) → Rising es → Kept before es (with_events before es)
  unfolding with_events
  kept [] before r = grind (arith, append-nil)
  kept (e ∷ es) before r = by e.value refl (λ acc. kept es acc r.1)
    where
      is-home : (ty : Ty) → e.value ≡ Some ty → (h : Home) (s : PairSpot) → IsAt e s h → record { slot = e.spot.slot; ty = ty } ≡ h
      is-home ty v h s at =
          let types : ty ≡ h.ty = some-type (sym v ∙ at.value) in
          ap (λ (n : ℕ). record { slot = n; ty = ty }) at.slot ∙ ap (λ (t : Ty). record { slot = h.slot; ty = t }) types

      with-one : (ty : Ty) → e.value ≡ Some ty → ((acc : List Home) → Kept acc es (fold with_event acc es)) → (b : Bool)
          → has before (record { slot = e.spot.slot; ty = ty }) ≡ b
          → Kept before (e ∷ es) (fold with_event (if b then before else before ++ record { slot = e.spot.slot; ty = ty } ∷ []) es)
      with-one ty v rest x q = grind (arith, skipped, has-among, added, false≢true, among-has)

      by : (v : Option Ty) → e.value ≡ v → ((acc : List Home) → Kept acc es (fold with_event acc es))
          → Kept before (e ∷ es) (fold with_event (with_home_of_value before e.spot.slot v) es)
      by x v rest = grind (arith, skipped, nothing-met, with-one)
