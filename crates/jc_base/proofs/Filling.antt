-- What is known of the package-visible lists of a class comes from its superclass.
use Rattle.std.proofs.Common.{◌≡◌, ◌≢◌, ℕ, zero, suc, ◌+◌, ◌<◌, ◌≤◌, Bool, List, [], ◌∷◌, ◌++◌, length, reverse, Option, Some, None}
use Rattle.std.proofs.Common.{refl, sym, ap, subst, ◌∙◌, arith, inl, inr, ◌⊎◌, ◌↔◌, set, replicate, length-set, IsTrue}
use Rattle.std.specs.Prelude.{IfSome, IsSome, slice_get, All}
use Rattle.std.specs.Option.{option_flatten}
use Rattle.std.proofs.lemmas.Bool.{cases_lt, cases_eq}
use Rattle.std.proofs.lemmas.List.{length-replicate, length-append, reverse-append}
use Rattle.std.proofs.lemmas.List.Elements.{All-nil}
use Rattle.jc_base.specs.declared.record.MethodRec.{MethodRec}
use Rattle.jc_base.specs.declared.visible_bodies.VisibleBodies.{VisibleBodies}
use Rattle.jc_base.specs.Class.{ClassTable, IsClass, AreClasses, IsNextOnChain, IsEndOfChain, parent_of, list_of}
use Rattle.jc_base.specs.Dispatch.{HasBody, IsConcrete, package_of, visible_of, visible_in, nearest_of}
use Rattle.jc_base.specs.Linked.{AreLinkedClasses}
use Rattle.jc_base.specs.ByClass.{AllHaveBodies, OthersHaveBodies, IsKnownOf, AreConcrete, AreKnown, AreFilledBelow, IsFilled, IsFilledOnce}
use Rattle.jc_base.specs.ByClass.{IsClimb, LeadsDown, known_at}
use Rattle.jc_base.proofs.Lists.{IfSome-is, slice_get-some, slice_get-set_here, slice_get-set_other}
use Rattle.jc_base.proofs.Climbs.{climb, chain-front, parent_of-class}
use Rattle.jc_base.proofs.Dispatches.{package_read}
use Rattle.jc_base.proofs.Bodies.{nearest-here, nearest-above, nearest-end, dec_eq}

lt_apart : (a b : ℕ) → a < b → a ≢ b
lt_apart a b lt e = absurd (omega (arith, lt, e))

lt_from : (a b : ℕ) → a ≤ b → a ≢ b → a < b
lt_from a b le ne = elim (cases_lt a b) [ inl lt ↦ lt | inr ge ↦ let e : a ≡ b = omega arith in absurd (ne e) ]

-- by number what holds of each element of a list, and of one more
each-pushed : {X : Type 0} (P : ℕ → X → Type 0) (xs : List X) (x : X) (n : ℕ) → length xs ≡ n → ((c : ℕ) → IfSome (slice_get xs c) (P c)) → P n x
    → (c : ℕ) → IfSome (slice_get (xs ++ (x ∷ [])) c) (P c)
each-pushed P [] x n e all h zero = subst (λ (k : ℕ). P k x) (sym e) h
each-pushed P [] x n e all h (suc c) = tt
each-pushed P (y ∷ ys) x n e all h zero = all zero
each-pushed P (y ∷ ys) x n e all h (suc c) =
    each-pushed (λ k z. P (suc k) z) ys x (length ys) refl (λ k. all (suc k)) (subst (λ (k : ℕ). P k x) (sym e) h) c

module _ (t : ClassTable) (methods : List MethodRec) where
  -- a superclass is of the same package or of an earlier one
  earlier : AreLinkedClasses 16 t methods → (c p : ℕ) → parent_of t c ≡ Some p → package_of t p ≤ package_of t c
  earlier links c p e = grind (arith, slice_get-some t.records c (parent_of-class t c p e).number, package_read)

  -- no class on a chain is of a later package than the chain's first
  none_later : AreClasses t → AreLinkedClasses 16 t methods → (c home : ℕ) → package_of t c < home → nearest_of t home c ≡ None
  none_later are links = climb t are (λ c. (home : ℕ) → package_of t c < home → nearest_of t home c ≡ None)
      (λ c top alone home lt. nearest-end t methods c c home alone (lt_apart (package_of t c) home lt))
      (λ c p e link before home lt.
      nearest-above t methods c c p home link.chain_is (lt_apart (package_of t c) home lt)
      ∙ before home (omega (arith, lt, earlier links c p e)))

  above_same : (c p home : ℕ) → IsNextOnChain t c p → package_of t c ≢ home → visible_in t home c ≡ visible_in t home p
  unfolding visible_in
  above_same c p home next ne = ap (list_of (visible_of t)) (nearest-above t methods c c p home next.chain_is ne)

  pub others_top : (c : ℕ) → IsEndOfChain t c → OthersHaveBodies t methods c
  unfolding visible_in
  others_top c end home ne = grind (arith, nearest-end)

  pub others_same : (c p : ℕ) → IsNextOnChain t c p → package_of t p ≡ package_of t c
      → OthersHaveBodies t methods p ↔ OthersHaveBodies t methods c
  others_same c p next e = (
    (λ h home ne. subst (All (HasBody methods)) (sym (above_same c p home next ne)) (h home (λ q. ne (sym e ∙ q)))),
    (λ h home ne. subst (All (HasBody methods)) (above_same c p home next (λ q. ne (e ∙ q))) (h home (λ q. ne (e ∙ q)))),
  )

  none_there : (c home : ℕ) → nearest_of t home c ≡ None → All (HasBody methods) (visible_in t home c)
  unfolding visible_in
  none_there c home e = subst (λ o. All (HasBody methods) (list_of (visible_of t) o)) (sym e) (All-nil (HasBody methods))

  pub others_apart : AreClasses t → AreLinkedClasses 16 t methods → (c p : ℕ) → IsNextOnChain t c p → parent_of t c ≡ Some p
      → package_of t p ≢ package_of t c → AllHaveBodies t methods p ↔ OthersHaveBodies t methods c
  others_apart are links c p next e apart = (
    (λ h home ne. subst (All (HasBody methods)) (sym (above_same c p home next ne)) (h home)),
    (λ h home. elim (dec_eq (package_of t c) home) [
      | inl is ↦
          let low : package_of t p < package_of t c = lt_from (package_of t p) (package_of t c) (earlier links c p e) apart in
          none_there p home (none_later are links p home (omega (arith, low, is)))
      | inr ne ↦ subst (All (HasBody methods)) (above_same c p home next ne) (h home ne)
    ]),
  )

  -- what the slot of the superclass tells
  module _ (slots : List (Option VisibleBodies)) (c p : ℕ) (k : VisibleBodies) (are : AreKnown t methods slots) (at : known_at slots p ≡ Some k) where
    known_is : IsKnownOf t methods p k
    known_is = IfSome-is (IsKnownOf t methods p) (known_at slots p) k (are.right p) at

    pub others_kept : IsNextOnChain t c p → package_of t p ≡ package_of t c → IsTrue k.others ↔ OthersHaveBodies t methods c
    others_kept next e = grind (arith, others_same, known_is)

    pub others_more : AreClasses t → AreLinkedClasses 16 t methods → IsNextOnChain t c p → parent_of t c ≡ Some p
        → package_of t p ≢ package_of t c → IsTrue k.all ↔ OthersHaveBodies t methods c
    others_more are links next e apart = grind (arith, others_apart, known_is)

  own_is : (c : ℕ) → visible_in t (package_of t c) c ≡ visible_of t c
  unfolding visible_in
  own_is c = let f = chain-front t c in ap (list_of (visible_of t)) (nearest-here t methods c c f.0 f.1)

  all_of : (c : ℕ) → OthersHaveBodies t methods c → All (HasBody methods) (visible_of t c) → AllHaveBodies t methods c
  all_of c others own home = grind (arith, dec_eq, own_is)

  -- the lists of a class are those of other packages and its own
  pub known_made : (c : ℕ) (others all : Bool) → IsTrue others ↔ OthersHaveBodies t methods c
      → IsTrue all ↔ (IsTrue others × All (HasBody methods) (visible_of t c))
      → IsKnownOf t methods c (record { others = others; all = all })
  known_made c others all o v = grind (arith, own_is c, all_of)

  -- ---- slots

  known_here : (slots : List (Option VisibleBodies)) (c : ℕ) (k : VisibleBodies) → c < length slots → known_at (set slots c (Some k)) c ≡ Some k
  unfolding known_at
  known_here slots c k h = ap option_flatten (slice_get-set_here slots c (Some k) h)

  known_other : (slots : List (Option VisibleBodies)) (c d : ℕ) (k : VisibleBodies) → (c ≡ d → ⊥)
      → known_at (set slots c (Some k)) d ≡ known_at slots d
  unfolding known_at
  known_other slots c d k ne = ap option_flatten (slice_get-set_other slots c d (Some k) ne)

  some_is : (o : Option VisibleBodies) (k : VisibleBodies) → o ≡ Some k → IsSome o
  some_is o k e = subst (λ (o : Option VisibleBodies). IsSome o) (sym e) refl

  pub filled_once : (slots : List (Option VisibleBodies)) (c : ℕ) (k : VisibleBodies) → IsClass t c → AreKnown t methods slots
      → IsKnownOf t methods c k → IsFilledOnce t methods slots (set slots c (Some k)) c
  filled_once slots c k is are known =
      record {
        slots = record { count = length-set slots c (Some k) ∙ are.count; right = λ d. right d (cases_eq c d) };
        keeps = λ d was. keeps d was (cases_eq c d);
        filled = some_is (known_at (set slots c (Some k)) c) k here;
      }
    where
      here : known_at (set slots c (Some k)) c ≡ Some k
      here = let low : c < length t.records = is.number in known_here slots c k (omega (arith, are.count, low))

      right : (d : ℕ) → (c ≡ d) ⊎ (c ≡ d → ⊥) → IfSome (known_at (set slots c (Some k)) d) (IsKnownOf t methods d)
      right d (inl e) =
          subst (λ (x : ℕ). IfSome (known_at (set slots c (Some k)) x) (IsKnownOf t methods x)) e
          (subst (λ (o : Option VisibleBodies). IfSome o (IsKnownOf t methods c)) (sym here) known)
      right d (inr ne) = subst (λ (o : Option VisibleBodies). IfSome o (IsKnownOf t methods d)) (sym (known_other slots c d k ne)) (are.right d)

      keeps : (d : ℕ) → IsFilled slots d → (c ≡ d) ⊎ (c ≡ d → ⊥) → IsFilled (set slots c (Some k)) d
      keeps d was (inl e) = subst (IsFilled (set slots c (Some k))) e (some_is (known_at (set slots c (Some k)) c) k here)
      keeps d was (inr ne) = subst (λ (o : Option VisibleBodies). IsSome o) (sym (known_other slots c d k ne)) was

  -- ---- up the chain

  -- one class further up
  pub climbed : (c a : ℕ) (path : List ℕ) (above next : Option ℕ) → above ≡ Some a → IsClass t a → parent_of t a ≡ next
      → LeadsDown t c above (reverse path) → LeadsDown t c next (reverse (path ++ (a ∷ [])))
  climbed c a path above next e is up leads = grind (arith, reverse-append, reverse)

  -- ---- down again

  pub record IsDescent (first slots : List (Option VisibleBodies)) (c : ℕ) (path : List ℕ) : Type 0 where
    pub climb : IsClimb t slots c path
    pub right : AreKnown t methods slots
    pub keeps : (d : ℕ) → IsFilled first d → IsFilled slots d

  pub descent_first : (slots : List (Option VisibleBodies)) (c : ℕ) (path : List ℕ) → AreKnown t methods slots
      → IsClimb t slots c path → IsDescent slots slots c path
  descent_first slots c path are climb = record { climb = climb; right = are; keeps = λ d h. h }

  module _ (first slots : List (Option VisibleBodies)) (c x : ℕ) (path rest : List ℕ) (e : path ≡ rest ++ (x ∷ [])) (d : IsDescent first slots c path) where
    next_down : LeadsDown t c d.climb.above (x ∷ reverse rest)
    next_down = grind (arith, climb, reverse-append, reverse)

    pub descent_class : IsClass t x
    descent_class = next_down.0

    pub descent_made : IfSome (parent_of t x) (IsFilled slots)
    descent_made = subst (λ (o : Option ℕ). IfSome o (IsFilled slots)) (sym next_down.1) d.climb.made

  pub descent_last : (first slots : List (Option VisibleBodies)) (c : ℕ) (path : List ℕ) → path ≡ []
      → IsDescent first slots c path → IsFilledOnce t methods first slots c
  descent_last first slots c path e d =
      let top : d.climb.above ≡ Some c = subst (λ (xs : List ℕ). LeadsDown t c d.climb.above (reverse xs)) e d.climb.leads in
      record {
        slots = d.right;
        keeps = d.keeps;
        filled = subst (λ (o : Option ℕ). IfSome o (IsFilled slots)) top d.climb.made;
      }

  -- ---- all classes

  nothing_there : (n c : ℕ) → option_flatten (slice_get {X = Option VisibleBodies} (replicate n None) c) ≡ None
  nothing_there zero c = refl
  nothing_there (suc n) zero = refl
  nothing_there (suc n) (suc c) = nothing_there n c

  pub none_filled : (slots : List (Option VisibleBodies)) (n : ℕ) → n ≡ length t.records → slots ≡ replicate n None
      → AreFilledBelow t methods slots 0
  unfolding known_at
  none_filled slots n m e =
      let f : (c : ℕ) → c < 0 → IsClass t c → IsFilled slots c = λ c h is. absurd (omega (arith, h)) in
      record {
        slots_known = record {
          count = ap length e ∙ length-replicate n None ∙ m;
          right =
              λ c. subst (λ (o : Option VisibleBodies). IfSome o (IsKnownOf t methods c))
              (sym (ap (λ (xs : List (Option VisibleBodies)). known_at xs c) e ∙ nothing_there n c)) tt;
        };
        filled = f;
      }

  pub more_filled : (old new : List (Option VisibleBodies)) (n : ℕ) → AreFilledBelow t methods old n → IsFilledOnce t methods old new n
      → AreFilledBelow t methods new (n + 1)
  more_filled old new n are once = record {
    slots_known = once.slots;
    filled = λ c h is. elim (cases_lt c n) [
      | inl lt ↦ once.keeps c (are.filled c lt is)
      | inr le ↦ let e : n ≡ c = omega arith in subst (IsFilled new) e once.filled
    ];
  }

  -- an interface is no class
  pub more_passed : (slots : List (Option VisibleBodies)) (n : ℕ) → (IsClass t n → ⊥) → AreFilledBelow t methods slots n
      → AreFilledBelow t methods slots (n + 1)
  more_passed slots n none are = grind (arith, cases_lt)

-- a climb that ends where a slot is filled, or at the end of the chain
pub climb_met : (t : ClassTable) (slots : List (Option VisibleBodies)) (c a : ℕ) (path : List ℕ) (above : Option ℕ) → above ≡ Some a
    → IsFilled slots a → LeadsDown t c above (reverse path) → IsClimb t slots c path
climb_met t slots c a path above e filled leads = grind (arith)

pub climb_ends : (t : ClassTable) (slots : List (Option VisibleBodies)) (c : ℕ) (path : List ℕ) (above : Option ℕ) → above ≡ None
    → LeadsDown t c above (reverse path) → IsClimb t slots c path
climb_ends t slots c path above e leads = grind (arith)

pub ruleset climbs = (climb_met, climb_ends, climbed)

-- ---- the flags of all classes

pub concrete_none : (t : ClassTable) (methods : List MethodRec) → AreConcrete t methods 0 []
concrete_none t methods = record { one_each = refl; told = λ c. tt }

pub concrete_more : (t : ClassTable) (methods : List MethodRec) (n : ℕ) (flags : List Bool) (b : Bool) → AreConcrete t methods n flags
    → IsTrue b ↔ IsConcrete t methods n → AreConcrete t methods (n + 1) (flags ++ (b ∷ []))
concrete_more t methods n flags b are h = record {
  one_each = length-append flags (b ∷ []) ∙ ap (λ (k : ℕ). k + 1) are.one_each;
  told = λ c. each-pushed (λ c b. IsTrue b ↔ IsConcrete t methods c) flags b n are.one_each are.told h c;
}

pub ruleset concretes = (concrete_none, concrete_more)

pub ruleset descends = (descent_first, descent_class, descent_made, descent_last)

pub ruleset fills = (more_filled, more_passed)
