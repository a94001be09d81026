-- A yes or no for each place of a method's code, and for its end.
use Rattle.std.specs.Prelude.{◌≡◌, ◌↔◌, ℕ, Bool, true, false, List, slice_index_or}

-- the flag of a place; past the last flag it is no
abbrev pub flag : List Bool → ℕ → Bool
flag flags place = slice_index_or flags place false

abbrev pub IsFlagged : List Bool → ℕ → Type 0
IsFlagged flags place = flag flags place ≡ true

-- the flagged places are those of a set
abbrev pub Marks : (ℕ → Type 0) → List Bool → Type 0
Marks P flags = (place : ℕ) → IsFlagged flags place ↔ P place
