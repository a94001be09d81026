-- The first condition that is broken, of lists of conditions one after the other, and of a condition that is asked alone.
use Rattle.std.proofs.Common.{◌≡◌, List, [], ◌∷◌, ◌++◌, Option, None, Ok, Err, sym, inl, inr, arith}
use Rattle.std.specs.List.{filter_map}
use Rattle.std.specs.Option.{option_to_list}
use Rattle.first_fault.specs.declared.place.Place.{Place}
use Rattle.first_fault.specs.Least.{least_of, refused}
use Rattle.first_fault.specs.First.{IsLeast, IsFirst, AllEmpty}
use Rattle.first_fault.proofs.LeastFaults.{least_in, least-at_fault, least-one, least-found, least-none}

module _ {F : Type 0} where
  pub AllEmpty-append : (xs ys : List (List F)) → AllEmpty xs → AllEmpty ys → AllEmpty (xs ++ ys)
  AllEmpty-append [] ys none others = others
  AllEmpty-append (x ∷ xs) ys none others = (none.0, AllEmpty-append xs ys none.1 others)

  pub AllEmpty-before : (xs ys : List (List F)) → AllEmpty (xs ++ ys) → AllEmpty xs
  AllEmpty-before [] ys none = tt {0}
  AllEmpty-before (x ∷ xs) ys none = (none.0, AllEmpty-before xs ys none.1)

  pub AllEmpty-after : (xs ys : List (List F)) → AllEmpty (xs ++ ys) → AllEmpty ys
  AllEmpty-after [] ys none = none
  AllEmpty-after (x ∷ xs) ys none = AllEmpty-after xs ys none.1

  pub IsFirst-append_left : (place : F → Place) (xs ys : List (List F)) (f : F) → IsFirst place xs f → IsFirst place (xs ++ ys) f
  IsFirst-append_left place [] ys f h = absurd h
  IsFirst-append_left place (x ∷ xs) ys f (inl least) = inl least
  IsFirst-append_left place (x ∷ xs) ys f (inr later) = inr (later.0, IsFirst-append_left place xs ys f later.1)

  pub IsFirst-append_right : (place : F → Place) (xs ys : List (List F)) (f : F) → AllEmpty xs → IsFirst place ys f → IsFirst place (xs ++ ys) f
  IsFirst-append_right place [] ys f none h = h
  IsFirst-append_right place (x ∷ xs) ys f none h = inr (none.0, IsFirst-append_right place xs ys f none.1 h)

-- ---- what one condition tells that is asked alone

module _ {F : Type 0} (place : F → Place) where
  least_refused : (faults : List F) (o : Option F) (f : F) → least_in place None faults ≡ o → Err f ≡ refused o → IsLeast place faults f
  least_refused faults y f e h = grind (arith, least-found)

  none_refused : (faults : List F) (o : Option F) (x : Unit {0}) → least_in place None faults ≡ o → Ok x ≡ refused o → faults ≡ []
  none_refused faults y x e h = grind (arith, least-none)

  pub things-refused : {X : Type 0} (fault : X → Option F) (xs : List X) (f : F) → Err f ≡ refused (least_of place fault xs)
      → IsLeast place (filter_map fault xs) f
  things-refused fault xs f h = least_refused (filter_map fault xs) (least_of place fault xs) f (sym (least-at_fault place fault xs None)) h

  pub things-none : {X : Type 0} (fault : X → Option F) (xs : List X) (x : Unit {0}) → Ok x ≡ refused (least_of place fault xs)
      → filter_map fault xs ≡ []
  things-none fault xs x h = none_refused (filter_map fault xs) (least_of place fault xs) x (sym (least-at_fault place fault xs None)) h

  pub one-refused : (o : Option F) (f : F) → Err f ≡ refused o → IsLeast place (option_to_list o) f
  one-refused o f h = least_refused (option_to_list o) o f (sym (least-one place o)) h

  pub one-none : (o : Option F) (x : Unit {0}) → Ok x ≡ refused o → option_to_list o ≡ []
  one-none o x h = none_refused (option_to_list o) o x (sym (least-one place o)) h
