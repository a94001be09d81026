-- Worked cases: faults that are their own places.
use Rattle.std.specs.Prelude.{◌≡◌, [], ◌∷◌, Some, None, refl}
use Rattle.first_fault.specs.declared.place.Place.{Place}
use Rattle.first_fault.specs.Order.{one, two}
use Rattle.first_fault.specs.Least.{least_of, lesser}

abbrev itself : Place → Place
itself p = p

-- the second number decides where the first is the same, however great it is
the_second_decides : least_of itself Some (two 3 70000 ∷ two 2 70000 ∷ two 2 5 ∷ two 3 0 ∷ []) ≡ Some (two 2 5)
unfolding lesser
the_second_decides = refl

nothing : least_of itself (λ (p : Place). None) (one 1 ∷ one 2 ∷ []) ≡ None
unfolding lesser
nothing = refl
