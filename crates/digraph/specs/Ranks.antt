-- Ranks of vertices that no edge raises: a vertex all of whose edges lower them comes on no cycle.
use Rattle.std.specs.Prelude.{◌≡◌, ℕ, ◌<◌, ◌≤◌, List, length, All, slice_index_or}
use Rattle.digraph.specs.Graph.{next}

abbrev pub rank_of : List ℕ → ℕ → ℕ
rank_of ranks v = slice_index_or ranks v 0

-- no edge of the graph raises the rank
pub record AreRanks (g : List (List ℕ)) (ranks : List ℕ) : Type 0 where
  pub lengths : length ranks ≡ length g
  pub never_rise : (v : ℕ) → v < length g → All (λ w. rank_of ranks w ≤ rank_of ranks v) (next g v)

-- each edge of the vertex lowers it
abbrev pub AllFall : List (List ℕ) → List ℕ → ℕ → Type 0
AllFall g ranks v = All (λ w. rank_of ranks w < rank_of ranks v) (next g v)
