-- The order of faults: pairs of numbers, of which the first decides, and where it is the same the second.
use Rattle.std.specs.Prelude.{◌≡◌, ℕ, ◌<◌, ◌≤◌, ◌⊎◌, Bool, nat_lt, ◌==◌, ◌&&◌, ◌||◌}
use Rattle.first_fault.specs.declared.place.Place.{Place}

-- the place of a fault that names one thing, by its number
abbrev pub one : ℕ → Place
one number = record { first = number; second = 0 }

-- the place of a fault that names two things
abbrev pub two : ℕ → ℕ → Place
two first second = record { first = first; second = second }

abbrev pub IsBefore : Place → Place → Type 0
IsBefore a b = (a.first < b.first) ⊎ ((a.first ≡ b.first) × (a.second < b.second))

abbrev pub IsUpTo : Place → Place → Type 0
IsUpTo a b = (a.first < b.first) ⊎ ((a.first ≡ b.first) × (a.second ≤ b.second))

abbrev pub comes_before : Place → Place → Bool
comes_before a b = nat_lt a.first b.first || (a.first == b.first && nat_lt a.second b.second)
