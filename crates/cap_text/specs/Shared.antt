-- The line for a package whose methods share registers.
use Rattle.std.specs.Prelude.{ℕ, List, [], ◌∷◌, codes, decimal}
use Rattle.std.specs.List.{concat}

-- so many methods with code had so many registers beside their arguments, all together, and now have so many
abbrev pub shared_line : ℕ → ℕ → ℕ → List ℕ
shared_line count before after =
    concat
    (codes "shared " ∷ decimal count ∷ codes " methods " ∷ decimal before ∷ codes " to " ∷ decimal after ∷ codes " registers\n" ∷ [])
