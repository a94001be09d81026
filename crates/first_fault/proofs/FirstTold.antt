-- Conditions that are asked one after the other tell the first that is broken.
use Rattle.std.proofs.Common.{arith}
use Rattle.std.proofs.Common.{◌≡◌, List, [], ◌∷◌, ◌++◌, Option, None, Result, Ok, Err, refl, sym, ap, subst, ◌∙◌, inl, inr}
use Rattle.std.specs.List.{filter_map}
use Rattle.std.specs.Option.{option_to_list}
use Rattle.first_fault.specs.declared.place.Place.{Place}
use Rattle.first_fault.specs.Least.{least_of, least_from, refused, ◌>>=◌}
use Rattle.first_fault.specs.First.{IsLeast, IsFirst, AllEmpty}
use Rattle.first_fault.proofs.LeastFaults.{least_in, least-at_fault, least-both, least-three, least-one, least-found, least-none}

module _ {F : Type 0} (place : F → Place) where
  -- the first list that is not empty refuses
  abbrev pub first_refused : List (List F) → Result (Unit {0}) F
  first_refused [] = Ok (tt {0})
  first_refused (faults ∷ others) = (refused (least_in place None faults) >>= λ _. first_refused others)

  -- a condition is the least of a list of faults
  pub record IsLeastOf (o : Option F) (faults : List F) : Type 0 where
    pub same : o ≡ least_in place None faults

  -- an answer is that of the first list that is not empty
  pub record IsTold (r : Result (Unit {0}) F) (lists : List (List F)) : Type 0 where
    pub same : r ≡ first_refused lists

  pub things-told : {X : Type 0} (f : X → Option F) (xs : List X) → IsLeastOf (least_of place f xs) (filter_map f xs)
  things-told f xs = record { same = least-at_fault place f xs None }

  -- the same of two and of three kinds of things
  pub both-told : {X Y : Type 0} (f : X → Option F) (xs : List X) (g : Y → Option F) (ys : List Y)
      → IsLeastOf (least_from place (least_of place f xs) g ys) (filter_map f xs ++ filter_map g ys)
  both-told f xs g ys = record { same = least-both place f xs g ys }

  pub three-told : {X Y Z : Type 0} (f : X → Option F) (xs : List X) (g : Y → Option F) (ys : List Y) (h : Z → Option F) (zs : List Z)
      → IsLeastOf (least_from place (least_from place (least_of place f xs) g ys) h zs) ((filter_map f xs ++ filter_map g ys) ++ filter_map h zs)
  three-told f xs g ys h zs = record { same = least-three place f xs g ys h zs }

  pub one-told : (o : Option F) → IsLeastOf o (option_to_list o)
  one-told o = record { same = least-one place o }

  step_by : (o : Option F) (r s : Result (Unit {0}) F) → r ≡ s → (refused o >>= λ _. r) ≡ (refused o >>= λ _. s)
  step_by x r s e = grind (arith)

  pub step : {o : Option F} {faults : List F} {r : Result (Unit {0}) F} {others : List (List F)} → IsLeastOf o faults → IsTold r others
      → IsTold ((refused o >>= λ _. r)) (faults ∷ others)
  step {o} {faults} {r} {others} e h = grind (arith, step_by)

  end_by : (o : Option F) → refused o ≡ (refused o >>= λ _. Ok (tt {0}))
  end_by x = grind (arith)

  pub last : {o : Option F} {faults : List F} → IsLeastOf o faults → IsTold (refused o) (faults ∷ [])
  last {o} {faults} e = record { same = ap refused e.same ∙ end_by (least_in place None faults) }

  -- one group of conditions after another

  join_by : (o : Option F) (r s t : Result (Unit {0}) F) → (r >>= λ _. s) ≡ t → ((refused o >>= λ _. r) >>= λ _. s) ≡ (refused o >>= λ _. t)
  join_by x r s t e = grind (arith)

  join : (xs ys : List (List F)) → (first_refused xs >>= λ _. first_refused ys) ≡ first_refused (xs ++ ys)
  join [] ys = refl
  join (faults ∷ xs) ys = join_by (least_in place None faults) (first_refused xs) (first_refused ys) (first_refused (xs ++ ys)) (join xs ys)

  pub groups-told : (r s : Result (Unit {0}) F) (xs ys : List (List F)) → IsTold r xs → IsTold s ys → IsTold (r >>= λ _. s) (xs ++ ys)
  groups-told r s xs ys e h = record { same = rw (e.same, h.same) (join xs ys) }

  -- ---- what the first list that is not empty tells

  first_of : (faults : List F) (others : List (List F)) (o : Option F) (f : F) → least_in place None faults ≡ o
      → (first_refused others ≡ Err f → IsFirst place others f) → (refused o >>= λ _. first_refused others) ≡ Err f
      → IsFirst place (faults ∷ others) f
  first_of faults others x f e known h = grind (arith, least-none, least-found)

  pub refused-first : (lists : List (List F)) (f : F) → first_refused lists ≡ Err f → IsFirst place lists f
  refused-first [] f h = absurd cc
  refused-first (faults ∷ others) f h = first_of faults others (least_in place None faults) f refl (λ k. refused-first others f k) h

  empty_of : (faults : List F) (others : List (List F)) (o : Option F) → least_in place None faults ≡ o
      → (first_refused others ≡ Ok (tt {0}) → AllEmpty others) → (refused o >>= λ _. first_refused others) ≡ Ok (tt {0})
      → AllEmpty (faults ∷ others)
  empty_of faults others x e known h = grind (arith, least-none)

  pub accepted-empty : (lists : List (List F)) → first_refused lists ≡ Ok (tt {0}) → AllEmpty lists
  accepted-empty [] h = tt {0}
  accepted-empty (faults ∷ others) h = empty_of faults others (least_in place None faults) refl (λ k. accepted-empty others k) h

  -- where nothing is at fault no fault is the first
  pub none_first : (lists : List (List F)) (f : F) → AllEmpty lists → IsFirst place lists f → ⊥
  none_first [] f empty first = first
  none_first (faults ∷ others) f empty (inl l) = subst (λ fs. IsLeast place fs f → ⊥) (sym empty.0) (λ k. k) l
  none_first (faults ∷ others) f empty (inr h) = none_first others f empty.1 h.1
