-- A loop over a list with the numbers of its elements.
use Rattle.std.proofs.Common.{ℕ, List, drop}
use Rattle.std.specs.List.{enumerate_from}

-- the elements from a place on, with their numbers
abbrev pub numbered_from : {X : Type 0} → ℕ → List X → List (ℕ × X)
numbered_from i xs = enumerate_from i (drop i xs)
