-- Going on to the instruction at a place.
use Rattle.std.specs.Prelude.{◌≡◌, ℕ, List, ◌∷◌, ◌++◌, Contains}
use Rattle.jc_decode.specs.declared.insn.Placed.{Placed}

-- an instruction of a list is at the place, and these come after it
pub record IsSought (place : ℕ) (before after : List Placed) : Type 0 where
  pub passed : List Placed
  pub found : Placed
  pub at : found.place ≡ place
  pub whole : before ≡ passed ++ found ∷ after

-- no instruction of the list is at the place
abbrev pub HasNone : ℕ → List Placed → Type 0
HasNone place left = (i : Placed) → Contains left i → ¬ (i.place ≡ place)
