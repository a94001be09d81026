-- Which fault is the first, in the subject's words: each condition is the list of the things at fault; the first
-- list that is not empty tells the fault, and the least thing in it is named.
use Rattle.std.specs.Prelude.{◌≡◌, ◌⊎◌, List, [], ◌∷◌, Option, Result, Ok, Err}
use Rattle.std.specs.List.{filter_map}
use Rattle.first_fault.specs.declared.place.Place.{Place}
use Rattle.first_fault.specs.Order.{IsBefore, IsUpTo}

-- the things at fault
abbrev pub at_fault : {F X : Type 0} → (X → Option F) → List X → List F
at_fault = filter_map

-- nothing in the list comes before the fault
abbrev pub ComesFirst : {F : Type 0} → (F → Place) → List F → F → Type 0
ComesFirst place [] fault = Unit {0}
ComesFirst place (other ∷ others) fault = IsUpTo (place fault) (place other) × ComesFirst place others fault

-- the least of the faults, and of several that are least the first in the list
abbrev pub IsLeast : {F : Type 0} → (F → Place) → List F → F → Type 0
IsLeast place [] fault = ⊥
IsLeast place (other ∷ others) fault =
    ((fault ≡ other) × ComesFirst place others fault)
    ⊎ (IsBefore (place fault) (place other) × IsLeast place others fault)

-- the least of the first list that is not empty
abbrev pub IsFirst : {F : Type 0} → (F → Place) → List (List F) → F → Type 0
IsFirst place [] fault = ⊥
IsFirst place (faults ∷ others) fault = IsLeast place faults fault ⊎ ((faults ≡ []) × IsFirst place others fault)

-- no list has anything
abbrev pub AllEmpty : {F : Type 0} → List (List F) → Type 0
AllEmpty [] = Unit {0}
AllEmpty (faults ∷ others) = (faults ≡ []) × AllEmpty others

-- an answer exactly where nothing is at fault, and else the first fault
abbrev pub TellsFirst : {F A : Type 0} → (F → Place) → List (List F) → Result A F → Type 0
TellsFirst place lists (Ok x) = AllEmpty lists
TellsFirst place lists (Err fault) = IsFirst place lists fault
