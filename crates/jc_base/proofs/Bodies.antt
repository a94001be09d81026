-- A climb over the superclasses of a class that looks at the first package-visible list of each package.
use Rattle.std.proofs.Common.{◌≡◌, ◌≢◌, ℕ, ◌+◌, ◌<◌, ◌≤◌, ◌==◌, Bool, true, false, List, [], ◌∷◌, length, refl, sym}
use Rattle.std.proofs.Common.{◌∙◌, ap, subst, arith, All, Some, None, get_or, set, ◌⊎◌, inl, inr, slice_get, take}
use Rattle.std.proofs.lemmas.Bool.Decides.{nat_tests, eqb_tells}
use Rattle.std.proofs.lemmas.Bool.{true≢false}
use Rattle.std.proofs.lemmas.List.Elements.{All-more}
use Rattle.std.proofs.lemmas.List.{take_all, get_or_default, get_or-set_same, get_or-set_other}
use Rattle.jc_base.proofs.Climbs.{chain-front}
use Rattle.jc_base.specs.declared.record.MethodRec.{MethodRec}
use Rattle.jc_base.specs.Class.{ClassTable, IsNextOnChain, IsEndOfChain, chain, list_of}
use Rattle.jc_base.specs.Linked.{AreLinkedClasses}
use Rattle.jc_base.specs.Dispatch.{HasBody, package_of, visible_of, nearest_of, visible_in}

same : (n : ℕ) → (n == n) ≡ true
same n = grind (arith, nat_tests)

other : (n m : ℕ) → n ≢ m → (n == m) ≡ false
other n m h = grind (arith, nat_tests)

pub dec_eq : (a b : ℕ) → (a ≡ b) ⊎ (a ≢ b)
dec_eq a b = elim (eqb_tells a b) [ inl h ↦ inl h.1 | inr h ↦ inr h.1 ]

module _ (t : ClassTable) (methods : List MethodRec) (c : ℕ) where
  -- what is known once a class is reached: the packages seen are met, and of the others the nearest class is above
  pub record Climbs (seen : List Bool) (at : ℕ) : Type 0 where
    pub met : (home : ℕ) → get_or seen home false ≡ true → All (HasBody methods) (visible_in t home c)
    pub rest : (home : ℕ) → get_or seen home false ≡ false → nearest_of t home c ≡ nearest_of t home at

  pub nearest-here : (at : ℕ) (cs : List ℕ) → chain t at ≡ at ∷ cs → nearest_of t (package_of t at) at ≡ Some at
  unfolding nearest_of
  nearest-here at cs e = rw (e, same (package_of t at)) refl

  pub nearest-above : (at p home : ℕ) → chain t at ≡ at ∷ chain t p → package_of t at ≢ home → nearest_of t home at ≡ nearest_of t home p
  unfolding nearest_of
  nearest-above at p home e ne = rw (e, other (package_of t at) home ne) refl

  pub nearest-end : (at home : ℕ) → chain t at ≡ at ∷ [] → package_of t at ≢ home → nearest_of t home at ≡ None
  unfolding nearest_of
  nearest-end at home e ne = rw (e, other (package_of t at) home ne) refl

  -- the list of the class that is reached is that of its package, where this was not seen
  pub visible-here : (seen : List Bool) (at : ℕ) (cs : List ℕ) → chain t at ≡ at ∷ cs → Climbs seen at → get_or seen (package_of t at) false
      ≡ false → visible_in t (package_of t at) c ≡ visible_of t at
  unfolding visible_in
  visible-here seen at cs e k h = ap (list_of (visible_of t)) (k.rest (package_of t at) h ∙ nearest-here at cs e)

  -- the class that is reached is met: its package was seen, or its list has bodies
  pub record Met (seen : List Bool) (at : ℕ) : Type 0 where
    pub bodies : get_or seen (package_of t at) false ≡ false → All (HasBody methods) (visible_of t at)
    pub inside : package_of t at < length seen

  mark-met : (seen : List Bool) (at : ℕ) (cs : List ℕ) → chain t at ≡ at ∷ cs → Climbs seen at → Met seen at → (b : Bool)
      → get_or seen (package_of t at) false ≡ b → All (HasBody methods) (visible_in t (package_of t at) c)
  mark-met seen at cs e k m x h = grind (arith, visible-here)

  pub met-more : (seen : List Bool) (at : ℕ) (cs : List ℕ) → chain t at ≡ at ∷ cs → Climbs seen at → Met seen at →
      (home : ℕ) → get_or (set seen (package_of t at) true) home false ≡ true → All (HasBody methods) (visible_in t home c)
  met-more seen at cs e k m home h = by_home (dec_eq (package_of t at) home)
    where
      by_home : ((package_of t at) ≡ home) ⊎ ((package_of t at) ≢ home) → All (HasBody methods) (visible_in t home c)
      by_home (inl is) = subst (λ n. All (HasBody methods) (visible_in t n c)) is (mark-met seen at cs e k m (get_or seen (package_of t at) false) refl)
      by_home (inr ne) = k.met home (sym (get_or-set_other seen (package_of t at) home true false (λ e. ne (sym e))) ∙ h)

  not_seen : (seen : List Bool) (at home : ℕ) → package_of t at < length seen → get_or (set seen (package_of t at) true) home false ≡ false
      → package_of t at ≢ home
  not_seen seen at home inside h is = grind (arith, true≢false, get_or-set_same, get_or, set)

  pub Climbs-next : (seen : List Bool) (at p : ℕ) → IsNextOnChain t at p → Climbs seen at → Met seen at → Climbs (set seen (package_of t at) true) p
  Climbs-next seen at p next k m = grind (arith, met-more, not_seen, get_or-set_other, nearest-above)

  pub Climbs-end : (seen : List Bool) (at : ℕ) → IsEndOfChain t at → Climbs seen at → Met seen at → (home : ℕ)
      → All (HasBody methods) (visible_in t home c)
  unfolding visible_in
  Climbs-end seen at end k m home = by_home (dec_eq (package_of t at) home)
    where
      by_home : ((package_of t at) ≡ home) ⊎ ((package_of t at) ≢ home) → All (HasBody methods) (list_of (visible_of t) (nearest_of t home c))
      by_home (inl is) =
          subst (λ n. All (HasBody methods) (list_of (visible_of t) (nearest_of t n c))) is
          (mark-met seen at [] end.chain_is k m (get_or seen (package_of t at) false) refl)
      by_home (inr ne) = by_seen (get_or seen home false) refl
        where
          by_seen : (b : Bool) → get_or seen home false ≡ b → All (HasBody methods) (list_of (visible_of t) (nearest_of t home c))
          by_seen true h = k.met home h
          by_seen false h =
              subst (λ o. All (HasBody methods) (list_of (visible_of t) o)) (sym (k.rest home h ∙ nearest-end at home end.chain_is ne))
              (λ i d lt. absurd (omega arith))

  -- what was read of the class that is reached
  module _ (seen : List Bool) (at home : ℕ) (d : Bool) (is : home ≡ package_of t at) (inside : home < length seen) where
    read_at : get_or seen (package_of t at) false ≡ get_or seen home d
    read_at = ap (λ n. get_or seen n false) (sym is) ∙ get_or_default seen home false d inside

    pub Met-read : (get_or seen home d ≡ false → All (HasBody methods) (visible_of t at)) → Met seen at
    Met-read h = record { bodies = λ e. h (sym read_at ∙ e); inside = subst (λ n. n < length seen) is inside }

    pub Climbs-refuses : Climbs seen at → ((get_or seen home d ≡ false → All (HasBody methods) (visible_of t at)) → ⊥)
        → ((h : ℕ) → All (HasBody methods) (visible_in t h c)) → ⊥
    Climbs-refuses k refused all = grind (arith, chain-front t at, visible-here, read_at)

    pub Climbs-step : (p : ℕ) → IsNextOnChain t at p → Climbs seen at → (get_or seen home d ≡ false → All (HasBody methods) (visible_of t at))
        → Climbs (set seen home true) p
    Climbs-step p next k h = subst (λ n. Climbs (set seen n true) p) (sym is) (Climbs-next seen at p next k (Met-read h))

module _ (methods : List MethodRec) (list : List ℕ) (i d : ℕ) (m : MethodRec) (inside : i < length list)
    (read : slice_get methods (get_or list i d) ≡ Some m) where
  pub bodies-none : m.is_abstract ≡ true → All (HasBody methods) list → ⊥
  bodies-none h all = grind (arith, get_or, true≢false)

  pub bodies-more : m.is_abstract ≡ false → All (HasBody methods) (take i list) → All (HasBody methods) (take (i + 1) list)
  bodies-more h all = All-more (HasBody methods) list i d inside all (grind (arith))

pub bodies-all : (methods : List MethodRec) (list : List ℕ) (i : ℕ) → length list ≤ i → All (HasBody methods) (take i list)
    → All (HasBody methods) list
bodies-all methods list i h all = subst (All (HasBody methods)) (take_all i list h) all

-- ---- what holds of the classes of some packages holds of them among more

pub linked_more : (p q : ℕ) (t : ClassTable) (methods : List MethodRec) → p ≤ q → AreLinkedClasses p t methods → AreLinkedClasses q t methods
linked_more p q t methods le h c = grind (arith, slice_get)
