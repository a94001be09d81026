-- Marks at the vertices of a graph, and a search that sets them.
use Rattle.std.specs.Prelude.{◌≡◌, ℕ, ◌+◌, ◌⊎◌, Bool, true, false, List, length, All, Contains, slice_index_or, sum_by}
use Rattle.digraph.specs.Way.{Leads}
use Rattle.digraph.specs.Graph.{next, Edge}

abbrev pub IsMarked : List Bool → ℕ → Type 0
IsMarked marks v = slice_index_or marks v false ≡ true

abbrev pub one_if_free : Bool → ℕ
one_if_free true = 0
one_if_free false = 1

-- how many vertices have no mark
abbrev pub unmarked : List Bool → ℕ
unmarked marks = sum_by one_if_free marks

-- these vertices are marked and no others; those that had no mark wait
pub record Marks (vs : List ℕ) (marks : List Bool) (pending : List ℕ) (marked : List Bool) (waiting : List ℕ) : Type 0 where
  pub lengths : length marked ≡ length marks
  pub as_many : length waiting + unmarked marked ≡ length pending + unmarked marks
  pub kept : (u : ℕ) → IsMarked marks u → IsMarked marked u
  pub all : All (IsMarked marked) vs
  pub only : (u : ℕ) → IsMarked marked u → IsMarked marks u ⊎ (Contains vs u × Contains waiting u)
  pub waits : (u : ℕ) → Contains pending u → Contains waiting u
  pub fresh : (u : ℕ) → Contains waiting u → Contains pending u ⊎ IsMarked marked u

-- a vertex that the search has met: the first one, or one that is marked
abbrev pub IsMet : ℕ → List Bool → ℕ → Type 0
IsMet from marks v = (from ≡ v) ⊎ IsMarked marks v

-- a search under way: what is marked is led to, and a vertex that is met waits, or all are marked to which edges go from it
pub record IsSearch (g : List (List ℕ)) (from : ℕ) (marks : List Bool) (pending : List ℕ) : Type 0 where
  pub lengths : length marks ≡ length g
  pub sound : (v : ℕ) → IsMarked marks v → Leads (Edge g) from v
  pub met : (v : ℕ) → Contains pending v → IsMet from marks v
  pub closed : (v : ℕ) → IsMet from marks v → Contains pending v ⊎ All (IsMarked marks) (next g v)

-- marked are the vertices to which the vertex leads, and no others
pub record AreLedTo (g : List (List ℕ)) (from : ℕ) (marks : List Bool) : Type 0 where
  pub lengths : length marks ≡ length g
  pub sound : (v : ℕ) → IsMarked marks v → Leads (Edge g) from v
  pub complete : (v : ℕ) → Leads (Edge g) from v → IsMarked marks v

-- what a search has still to do
abbrev pub work : List ℕ → List Bool → ℕ
work pending marks = length pending + unmarked marks
