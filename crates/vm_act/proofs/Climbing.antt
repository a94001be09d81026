-- Searches along the chain of superclasses, one class after the other.
use Rattle.std.proofs.Common.{arith}
use Rattle.std.proofs.Common.{◌≡◌, ℕ, ◌==◌, Bool, true, false, List, [], ◌∷◌, ◌++◌, Some, None, refl}
use Rattle.std.proofs.Common.{ap, ◌∙◌}
use Rattle.std.specs.Prelude.{find, flat_map, slice_get}
use Rattle.std.proofs.lemmas.List.Concat.{flat_map-cons}
use Rattle.jc_base.specs.declared.record.Iface.{Iface}
use Rattle.jc_base.specs.declared.record.ClassRec.{ClassRec}
use Rattle.jc_base.specs.Class.{ClassTable, IsNextOnChain, IsEndOfChain, chain}
use Rattle.jc_base.specs.Dispatch.{package_of, nearest_of}
use Rattle.jc_base.proofs.Climbs.{chain-front}
use Rattle.vm_step.specs.Calls.{interfaces_of, serving}

module _ {A : Type 0} (p : A → Bool) where
  pub find-yes : (x : A) (xs : List A) → p x ≡ true → find p (x ∷ xs) ≡ Some x
  find-yes x xs h = rw h refl

  pub find-no : (x : A) (xs : List A) → p x ≡ false → find p (x ∷ xs) ≡ find p xs
  find-no x xs h = rw h refl

  find-first : (b : Bool) (x y : A) (xs ys : List A) → p x ≡ b → (find p xs ≡ Some y → find p (xs ++ ys) ≡ Some y)
      → find p (x ∷ xs) ≡ Some y → find p (x ∷ (xs ++ ys)) ≡ Some y
  find-first x x2 y xs ys e rest h = grind (arith, find-yes, find-no)

  pub find-in-first : (xs ys : List A) (y : A) → find p xs ≡ Some y → find p (xs ++ ys) ≡ Some y
  find-in-first [] ys y h = absurd cc
  find-in-first (x ∷ xs) ys y h = find-first (p x) x y xs ys refl (find-in-first xs ys y) h

  find-second : (b : Bool) (x : A) (xs ys : List A) → p x ≡ b → (find p xs ≡ None → find p (xs ++ ys) ≡ find p ys)
      → find p (x ∷ xs) ≡ None → find p (x ∷ (xs ++ ys)) ≡ find p ys
  find-second x x2 xs ys e rest h = grind (arith, find-yes, find-no)

  pub find-in-second : (xs ys : List A) → find p xs ≡ None → find p (xs ++ ys) ≡ find p ys
  find-in-second [] ys h = refl
  find-in-second (x ∷ xs) ys h = find-second (p x) x xs ys refl (find-in-second xs ys) h

abbrev pub Is : ℕ → Iface → Bool
Is interface e = e.class == interface

module _ (t : ClassTable) where
  -- ---- the nearest class of a package

  pub nearest-here : (home c : ℕ) → (package_of t c == home) ≡ true → nearest_of t home c ≡ Some c
  unfolding nearest_of
  nearest-here home c h = ap (find (λ a. package_of t a == home)) (chain-front t c).1 ∙ find-yes (λ a. package_of t a == home) c (chain-front t c).0 h

  pub nearest-next : (home c p : ℕ) → IsNextOnChain t c p → (package_of t c == home) ≡ false → nearest_of t home c ≡ nearest_of t home p
  unfolding nearest_of
  nearest-next home c p next h = grind (arith, find-no)

  pub nearest-end : (home c : ℕ) → IsEndOfChain t c → (package_of t c == home) ≡ false → nearest_of t home c ≡ None
  unfolding nearest_of
  nearest-end home c end h = ap (find (λ a. package_of t a == home)) end.chain_is ∙ find-no (λ a. package_of t a == home) c [] h

  -- ---- the entry for an interface

  pub own-entries : (c : ℕ) (r : ClassRec) → slice_get t.records c ≡ Some r → interfaces_of t c ≡ r.implements
  own-entries c r e = rw e refl

  entries-next : (c p : ℕ) → IsNextOnChain t c p → flat_map (interfaces_of t) (chain t c) ≡ interfaces_of t c ++ flat_map (interfaces_of t) (chain t p)
  entries-next c p next = ap (flat_map (interfaces_of t)) next.chain_is ∙ flat_map-cons (interfaces_of t) c (chain t p)

  pub serving-here : (interface c : ℕ) (e : Iface) → find (Is interface) (interfaces_of t c) ≡ Some e → serving t interface c ≡ Some e
  unfolding serving
  serving-here interface c e h =
      let front = chain-front t c in
      ap (λ cs. find (Is interface) (flat_map (interfaces_of t) cs)) front.1
      ∙ (ap (find (Is interface)) (flat_map-cons (interfaces_of t) c front.0)
      ∙ find-in-first (Is interface) (interfaces_of t c) (flat_map (interfaces_of t) front.0) e h)

  pub serving-next : (interface c p : ℕ) → IsNextOnChain t c p → find (Is interface) (interfaces_of t c) ≡ None
      → serving t interface c ≡ serving t interface p
  unfolding serving
  serving-next interface c p next h = grind (arith, entries-next, find-in-second)

  pub serving-end : (interface c : ℕ) → IsEndOfChain t c → find (Is interface) (interfaces_of t c) ≡ None → serving t interface c ≡ None
  unfolding serving
  serving-end interface c end h = grind (arith, flat_map-cons, find-in-second)
