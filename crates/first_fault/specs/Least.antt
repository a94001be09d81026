-- The fault that is named, step by step: as it is found by one pass over the things. `place` tells by what
-- the faults of one condition are in order.
use Rattle.std.specs.Prelude.{List, Option, Some, None, Result, Ok, Err, fold, if◌then◌else◌}
use Rattle.first_fault.specs.declared.place.Place.{Place}
use Rattle.first_fault.specs.Order.{comes_before}

-- the fault that is named, when a thing was seen that may be at fault: the least so far stays where it is as low
unfoldable pub lesser : {F : Type 0} → (F → Place) → Option F → Option F → Option F
lesser place least None = least
lesser place None (Some fault) = Some fault
lesser place (Some least) (Some fault) = if comes_before (place fault) (place least) then Some fault else Some least

-- the least fault of things, where `fault` tells what is wrong with each, beside one that was seen before
abbrev pub least_from : {F X : Type 0} → (F → Place) → Option F → (X → Option F) → List X → Option F
least_from place before fault = fold (λ least x. lesser place least (fault x)) before

abbrev pub least_of : {F X : Type 0} → (F → Place) → (X → Option F) → List X → Option F
least_of place = least_from place None

abbrev pub refused : {F : Type 0} → Option F → Result (Unit {0}) F
refused None = Ok (tt {0})
refused (Some fault) = Err fault

-- one answer after the other, up to the first fault
infixl 10 ◌>>=◌
abbrev pub ◌>>=◌ : {F A B : Type 0} → Result A F → (A → Result B F) → Result B F
(Ok x) >>= f = f x
(Err fault) >>= f = Err fault
