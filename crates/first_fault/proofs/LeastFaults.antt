-- The least fault of things is the least of the list of those at fault.
use Rattle.std.proofs.Common.{arith}
use Rattle.std.proofs.Common.{◌≡◌, List, [], ◌∷◌, ◌++◌, Option, Some, None, Bool, refl}
use Rattle.std.specs.List.{filter_map, cons_option}
use Rattle.std.specs.Option.{option_to_list}
use Rattle.std.proofs.lemmas.List.Sums.{fold-append}
use Rattle.first_fault.specs.declared.place.Place.{Place}
use Rattle.first_fault.specs.Order.{IsUpTo, comes_before}
use Rattle.first_fault.specs.Least.{lesser, least_of, least_from}
use Rattle.first_fault.specs.First.{IsLeast}
use Rattle.first_fault.proofs.Places.{up_to-refl, up_to-before, before-then, before-up_to, before-true, before-false}

-- the first of several things, and the others
pub faultless_first : {Y : Type 0} (o : Option Y) (ys : List Y) → cons_option o ys ≡ [] → (o ≡ None) × (ys ≡ [])
faultless_first x ys e = grind (arith)

module _ {F : Type 0} (place : F → Place) where
  -- the least of a list of faults, beside one that was seen before
  abbrev pub least_in : Option F → List F → Option F
  least_in before = least_from place before Some

  found_one : {X : Type 0} (fault : X → Option F) (xs : List X) (before o : Option F)
      → ((b : Option F) → least_from place b fault xs ≡ least_in b (filter_map fault xs)) → least_from place (lesser place before o) fault xs
      ≡ least_in before (cons_option o (filter_map fault xs))
  unfolding lesser
  found_one fault xs before x h = grind (arith)

  pub least-at_fault : {X : Type 0} (fault : X → Option F) (xs : List X) (before : Option F)
      → least_from place before fault xs ≡ least_in before (filter_map fault xs)
  least-at_fault fault [] before = refl
  least-at_fault fault (x ∷ xs) before = found_one fault xs before (fault x) (λ b. least-at_fault fault xs b)

  -- the same of two and of three kinds of things, one after the other
  pub least-both : {X Y : Type 0} (f : X → Option F) (xs : List X) (g : Y → Option F) (ys : List Y) → least_from place (least_of place f xs) g ys
      ≡ least_in None (filter_map f xs ++ filter_map g ys)
  least-both f xs g ys = grind (arith, least-at_fault, fold-append)

  pub least-three : {X Y Z : Type 0} (f : X → Option F) (xs : List X) (g : Y → Option F) (ys : List Y) (h : Z → Option F) (zs : List Z)
      → least_from place (least_from place (least_of place f xs) g ys) h zs ≡ least_in None ((filter_map f xs ++ filter_map g ys) ++ filter_map h zs)
  least-three f xs g ys h zs = grind (arith, least-at_fault, least-both, fold-append)

  pub least-one : (o : Option F) → o ≡ least_in None (option_to_list o)
  unfolding lesser
  least-one x = grind (arith)

  -- ---- the least of a list

  least-before : (x : F) (xs : List F) (f : F) → IsLeast place (x ∷ xs) f → IsUpTo (place f) (place x)
  least-before x xs f x2 = grind (arith, up_to-refl, before-up_to)

  -- another fault that is not before the first of a list leaves the least where it is
  least-kept : (g x : F) (xs : List F) (f : F) → IsUpTo (place g) (place x) → IsLeast place (g ∷ xs) f → IsLeast place (g ∷ x ∷ xs) f
  least-kept g x xs f le x2 = grind (arith, before-then)

  chosen_least : (g x : F) (xs : List F) (f : F) (b : Bool) → comes_before (place x) (place g) ≡ b
      → (least_in (Some x) xs ≡ Some f → IsLeast place (x ∷ xs) f) → (least_in (Some g) xs ≡ Some f → IsLeast place (g ∷ xs) f)
      → least_in (lesser place (Some g) (Some x)) xs ≡ Some f → IsLeast place (g ∷ x ∷ xs) f
  unfolding lesser
  chosen_least g x xs f x2 e by_x by_g h = grind (arith, up_to-before, least-before, before-true, least-kept, before-false)

  pub least-some : (g : F) (fs : List F) (f : F) → least_in (Some g) fs ≡ Some f → IsLeast place (g ∷ fs) f
  least-some g [] f h = grind (arith)
  least-some g (x ∷ xs) f h = chosen_least g x xs f (comes_before (place x) (place g)) refl (λ k. least-some x xs f k) (λ k. least-some g xs f k) h

  chosen_none : (g x : F) (xs : List F) (b : Bool) → comes_before (place x) (place g) ≡ b → (least_in (Some x) xs ≡ None → ⊥)
      → (least_in (Some g) xs ≡ None → ⊥) → least_in (lesser place (Some g) (Some x)) xs ≡ None → ⊥
  unfolding lesser
  chosen_none g x xs x2 e by_x by_g h = grind (arith)

  never_none : (g : F) (fs : List F) → least_in (Some g) fs ≡ None → ⊥
  never_none g [] h = cc
  never_none g (x ∷ xs) h = chosen_none g x xs (comes_before (place x) (place g)) refl (never_none x xs) (never_none g xs) h

  pub least-found : (fs : List F) (f : F) → least_in None fs ≡ Some f → IsLeast place fs f
  unfolding lesser
  least-found [] f h = absurd cc
  least-found (g ∷ fs) f h = least-some g fs f h

  pub least-none : (fs : List F) → least_in None fs ≡ None → fs ≡ []
  unfolding lesser
  least-none [] h = refl
  least-none (g ∷ fs) h = absurd (never_none g fs h)
