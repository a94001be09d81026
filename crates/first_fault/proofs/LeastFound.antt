-- The least fault of an iterator's things, where the iterator shows the list that it has left.
use Rattle.std.proofs.Common.{arith}
use Rattle.std.proofs.Common.{◌≡◌, ℕ, List, Option, Bor, map, sym, ap, ◌∙◌, refl}
use Rattle.std.specs.Iterator.{YieldsFirst, YieldsFirstBy, Drains}
use Rattle.std.specs.declared.slice.Iter.{Iter}
use Rattle.std.specs.Slice.Iter.{iter_steps, iter_rest}
use Rattle.std.proofs.lemmas.Iterator.{YieldsList, YieldsList-from_slice, items_from_drains}
use Rattle.std.proofs.lemmas.Iterator.Consumers.{YieldsList-from_first}
use Rattle.std.proofs.lemmas.List.Folds.{fold-map}
use Rattle.first_fault.specs.declared.place.Place.{Place}
use Rattle.first_fault.specs.Least.{lesser, least_from}
use Rattle.first_fault.specs.LeastFound.{IsFound, FindsLeast}

module _ {S A B : Type 0} {gives : S → Option A → S → Type 0} {view : A → B} {s : S} {all : List B} where
  all-seen : YieldsList gives view s all → (things : List A) → Drains gives s things → map view things ≡ all
  all-seen yields things d = grind (arith, items_from_drains)

  among : {F : Type 0} → YieldsList gives view s all → (place : F → Place) (before : Option F) (tells : A → Option F → Type 0)
      (found : Option F) → IsFound gives s place before tells found → (fault : B → Option F)
      → ((x : A) (o : Option F) → tells x o → o ≡ fault (view x)) → found ≡ least_from place before fault all
  unfolding IsFound
  among yields place before tells found f fault same =
      f.2 (λ x. fault (view x)) same
      ∙ sym (fold-map (λ least x. lesser place least (fault x)) view before f.0)
      ∙ ap (least_from place before fault) (all-seen yields f.0 f.1)

-- What follows is for `using`: `IsFound` stands first, so that the search has a fact to match.

module _ {S A B F : Type 0} (view : A → B) (rest : S → List B) (s : S) (place : F → Place) (before : Option F)
    (tells : A → Option F → Type 0) (found : Option F) where
  pub least_by : FindsLeast (YieldsFirstBy view rest) s place before tells found → IsFound (YieldsFirstBy view rest) s place before tells found
      × ((fault : B → Option F) → ((x : A) (o : Option F) → tells x o → o ≡ fault (view x)) → found ≡ least_from place before fault (rest s))
  least_by f = (f.by, among (YieldsList-from_first view rest (rest s) refl) place before tells found f.by)

  -- the same where the fault is told of a number of each thing
  pub least_by_number : FindsLeast (YieldsFirstBy view rest) s place before tells found → IsFound (YieldsFirstBy view rest) s place before tells found
      × ((number : B → ℕ) (fault : ℕ → Option F) → ((x : A) (o : Option F) → tells x o → o ≡ fault (number (view x)))
      → found ≡ least_from place before fault (map number (rest s)))
  least_by_number f = (
    f.by,
    λ number fault same. among (YieldsList-from_first view rest (rest s) refl) place before tells found f.by
        (λ x. fault (number x)) same ∙ sym (fold-map (λ least x. lesser place least (fault x)) number before (rest s)),
  )

-- the same where the list is of the things themselves
module _ {S A F : Type 0} (rest : S → List A) (s : S) (place : F → Place) (before : Option F) (tells : A → Option F → Type 0)
    (found : Option F) where
  pub least_first : FindsLeast (YieldsFirst rest) s place before tells found → IsFound (YieldsFirst rest) s place before tells found
      × ((fault : A → Option F) → ((x : A) (o : Option F) → tells x o → o ≡ fault x) → found ≡ least_from place before fault (rest s))
  least_first f = (f.by, among (YieldsList-from_first (λ x. x) rest (rest s) refl) place before tells found f.by)

-- the same of a slice
module _ {A F : Type 0} (s : Iter A) (place : F → Place) (before : Option F) (tells : Bor A → Option F → Type 0) (found : Option F) where
  pub least_slice : FindsLeast iter_steps s place before tells found → IsFound iter_steps s place before tells found
      × ((fault : A → Option F) → ((x : Bor A) (o : Option F) → tells x o → o ≡ fault x.now)
      → found ≡ least_from place before fault (iter_rest s))
  least_slice f = (f.by, among (YieldsList-from_slice (iter_rest s) refl) place before tells found f.by)
