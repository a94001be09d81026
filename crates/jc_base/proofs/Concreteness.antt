-- A class is concrete exactly where it is computed so: the packages of its chain have all its package-visible lists.
use Rattle.std.proofs.Common.{◌≡◌, ◌↔◌, ℕ, ◌==◌, Bool, true, false, not, List, length, Option, Some, None, refl, subst, arith}
use Rattle.std.specs.Prelude.{All, IsTrue, IsSomeAnd, find, slice_get}
use Rattle.std.specs.List.{list_all}
use Rattle.std.proofs.lemmas.Bool.{false≢true, eqb-true, not-true, not_from_false, and_parts, and_from}
use Rattle.std.proofs.lemmas.Bool.Decides.{nat_tests}
use Rattle.std.proofs.lemmas.List.Elements.{All-nil}
use Rattle.jc_base.specs.declared.record.MethodRec.{MethodRec}
use Rattle.jc_base.specs.Class.{ClassTable, chain, list_of}
use Rattle.jc_base.specs.Dispatch.{HasBody, IsConcrete, has_body, has_body_in, all_have_bodies, is_concrete, package_of, visible_of, nearest_of}
use Rattle.jc_base.specs.Dispatch.{visible_in}
use Rattle.jc_base.specs.Laws.{ConcreteDecides}
use Rattle.jc_base.proofs.Eaching.{Each-at, Each-from_All}
use Rattle.jc_base.proofs.Tests.{All-from_test, test-from_All, found-passes, same_truth}

body-sound : (o : Option MethodRec) → has_body_in o ≡ true → IsSomeAnd o (λ m. m.is_abstract ≡ false)
body-sound x h = grind (arith, false≢true, not-true)

body-complete : (o : Option MethodRec) → IsSomeAnd o (λ m. m.is_abstract ≡ false) → has_body_in o ≡ true
body-complete x h = grind (arith, not_from_false)

module _ (t : ClassTable) (methods : List MethodRec) (c : ℕ) where
  bodies-sound : (list : List ℕ) → all_have_bodies methods list ≡ true → All (HasBody methods) list
  bodies-sound list h = All-from_test (has_body methods) (HasBody methods) (λ n. body-sound (slice_get methods n)) list h

  bodies-complete : (list : List ℕ) → All (HasBody methods) list → all_have_bodies methods list ≡ true
  bodies-complete list h = test-from_All (has_body methods) (HasBody methods) (λ n. body-complete (slice_get methods n)) list h

  -- the list of the packages of the chain are all that there are
  visible-by : (home : ℕ) (o : Option ℕ) → nearest_of t home c ≡ o → All (λ a. All (HasBody methods) (visible_in t (package_of t a) c))
      (chain t c) → All (HasBody methods) (visible_in t home c)
  unfolding visible_in nearest_of
  visible-by home None e each = rw e (All-nil (HasBody methods))
  visible-by home (Some a) e each =
      let found = found-passes (λ x. package_of t x == home) (chain t c) a e in
      let same : package_of t a ≡ home = eqb-true (package_of t a) home found.0 in
      let own = Each-at (λ x. All (HasBody methods) (list_of (visible_of t) (find (λ y. package_of t y == package_of t x) (chain t c)))) a (chain t c)
      (Each-from_All (λ x. All (HasBody methods) (list_of (visible_of t) (find (λ y. package_of t y == package_of t x) (chain t c)))) (chain t c) each)
      found.1 in
      subst (λ n. All (HasBody methods) (list_of (visible_of t) (find (λ y. package_of t y == n) (chain t c)))) same own

  visible-sound : list_all (λ a. all_have_bodies methods (visible_in t (package_of t a) c)) (chain t c) ≡ true → (home : ℕ)
      → All (HasBody methods) (visible_in t home c)
  visible-sound h home = visible-by home (nearest_of t home c) refl
      (All-from_test (λ a. all_have_bodies methods (visible_in t (package_of t a) c)) (λ a. All (HasBody methods) (visible_in t (package_of t a) c))
      (λ a. bodies-sound (visible_in t (package_of t a) c)) (chain t c) h)

  visible-complete : ((home : ℕ) → All (HasBody methods) (visible_in t home c))
      → list_all (λ a. all_have_bodies methods (visible_in t (package_of t a) c)) (chain t c) ≡ true
  visible-complete h = test-from_All (λ a. all_have_bodies methods (visible_in t (package_of t a) c)) (λ a. Unit {0})
      (λ a _. bodies-complete (visible_in t (package_of t a) c) (h (package_of t a))) (chain t c) (λ k d lt. tt)

  pub concrete-sound : is_concrete t methods c ≡ true → IsConcrete t methods c
  unfolding is_concrete
  concrete-sound h = grind (arith, and_parts, length, not, nat_tests, not-true, bodies-sound, visible-sound)

  concrete-complete : IsConcrete t methods c → is_concrete t methods c ≡ true
  unfolding is_concrete
  concrete-complete is = grind (arith, length, nat_tests, and_from, not, not_from_false, bodies-complete, visible-complete)

  pub concrete-is : (b : Bool) → IsTrue b ↔ IsConcrete t methods c → b ≡ is_concrete t methods c
  concrete-is b decided = same_truth b (is_concrete t methods c) (λ h. concrete-complete (decided.0 h)) (λ h. decided.1 (concrete-sound h))

pub concrete-decides : (t : ClassTable) (methods : List MethodRec) → ConcreteDecides t methods
concrete-decides t methods = λ c. (concrete-sound t methods c, concrete-complete t methods c)
