-- Directed graphs: for each vertex, by number, the vertices to which edges go from it.
use Rattle.std.specs.Prelude.{ℕ, ◌<◌, ◌^◌, List, [], length, All, Contains, slice_index_or}

-- the vertices to which edges go from a vertex
abbrev pub next : List (List ℕ) → ℕ → List ℕ
next g v = slice_index_or g v []

-- each edge goes to a vertex of the graph, and vertices are numbers of 32 bits
pub record IsGraph (g : List (List ℕ)) : Type 0 where
  pub edges : All (All (λ w. w < length g)) g
  pub few : length g < 2 ^ 32

-- an edge goes from a vertex to another
abbrev pub Edge : List (List ℕ) → ℕ → ℕ → Type 0
Edge g v w = Contains (next g v) w

-- the weight of a vertex
abbrev pub weight_of : List ℕ → ℕ → ℕ
weight_of weights v = slice_index_or weights v 0
