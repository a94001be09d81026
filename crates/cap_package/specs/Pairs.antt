-- The pairs of a list.
use Rattle.std.specs.Prelude.{List, [], ◌∷◌, ◌++◌, map}

-- each pair of two places of a list, the earlier first
abbrev pub pairs : {X : Type 0} → List X → List (X × X)
pairs [] = []
pairs (x ∷ xs) = map (λ y. (x, y)) xs ++ pairs xs
