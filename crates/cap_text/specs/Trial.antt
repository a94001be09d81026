-- The text for a run of a package and one of the package in the form that a verifier on the card accepts.
use Rattle.std.specs.Prelude.{ℕ, List, [], ◌∷◌, codes}
use Rattle.std.specs.List.{concat}

-- what is told of the run of the source, and then what is told of the other
abbrev pub trial_text : List ℕ → List ℕ → List ℕ
trial_text source target = concat (codes "source\n" ∷ source ∷ codes "target\n" ∷ target ∷ [])
