-- The least fault of the things that an iterator gives, as one pass over it finds it.
use Rattle.std.specs.Prelude.{◌≡◌, List, Option}
use Rattle.std.specs.Iterator.{Drains}
use Rattle.first_fault.specs.declared.place.Place.{Place}
use Rattle.first_fault.specs.Least.{least_from}

-- the iterator gives a list of things; where `tells` is a function of the thing, the fault is the least of the list, beside
-- one that was seen before
unfoldable pub IsFound : {S A F : Type 0} → (S → Option A → S → Type 0) → S → (F → Place) → Option F → (A → Option F → Type 0) → Option F
    → Type 0
IsFound {S} {A} {F} gives s place before tells found = (things : List A) × Drains gives s things
    × ((fault : A → Option F) → ((x : A) (o : Option F) → tells x o → o ≡ fault x) → found ≡ least_from place before fault things)

pub record FindsLeast {S A F : Type 0} (gives : S → Option A → S → Type 0) (s : S) (place : F → Place) (before : Option F)
    (tells : A → Option F → Type 0) (found : Option F) : Type 0 where
  pub by : IsFound gives s place before tells found
