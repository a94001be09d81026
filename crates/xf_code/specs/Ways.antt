-- The labels of the ways that a branch is taken.
use Rattle.std.specs.Prelude.{ℕ, ℤ, suc, List, [], ◌∷◌}
use Rattle.jc_ops.specs.declared.operation.Operation.{Operation}
use Rattle.xf_homes.specs.Source.{Source}
use Rattle.xf_emission.specs.Jump.{lead}

-- of ways from the k-th on
abbrev pub way_labels : Source → ℕ → Operation → ℕ → ℕ → List ℤ → List ℕ
way_labels s p op n k [] = []
way_labels s p op n k (t ∷ ts) = lead s p op n k t ∷ way_labels s p op n (suc k) ts
