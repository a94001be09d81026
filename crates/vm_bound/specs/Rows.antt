-- A graph by number that has the edges of a world's calls.
use Rattle.std.specs.Prelude.{◌≡◌, ℕ, ◌+◌, ◌<◌, ◌++◌, List, [], ◌∷◌, length, Contains, Some, slice_get, slice_set}
use Rattle.jc_base.specs.Class.{ClassTable, parent_of}
use Rattle.jc_base.specs.World.{Linked}
use Rattle.digraph.specs.Graph.{next}
use Rattle.jc_base.specs.declared.record.MethodRec.{MethodRec}
use Rattle.vm_bound.specs.declared.spread.Block.{Block}
use Rattle.vm_bound.specs.declared.spread.Spread.{Spread}
use Rattle.vm_bound.specs.declared.graph.Meaning.{Meaning}
use Rattle.vm_bound.specs.declared.graph.Vertex.{Vertex}
use Rattle.vm_bound.specs.declared.graph.Vertex.TheVariants.{Method}
use Rattle.vm_bound.specs.Vertices.{Stands, IsFit}
use Rattle.vm_bound.specs.Blocks.{IsSpread}
use Rattle.vm_bound.specs.Edges.{Owns, LeadsToBlocks, Leads}

-- ---- rows as vertices

-- the vertices to which edges go, by a relation that says which these are
pub record AreTargets (w : Linked) (IsTarget : Vertex → Type 0) (vertices : List Vertex) : Type 0 where
  pub only : (v : Vertex) → Contains vertices v → IsTarget v
  pub all : (v : Vertex) → IsTarget v → Contains vertices v
  pub fit : (v : Vertex) → Contains vertices v → IsFit w v

-- those to which edges go from a method that an interface describes, which has these blocks
abbrev pub AreBlockTargets : Linked → MethodRec → List Block → List Vertex → Type 0
AreBlockTargets w rec blocks vertices = AreTargets w (LeadsToBlocks w.classes rec blocks) vertices

-- the method of a class's own lists
pub data IsOwned (w : Linked) (c token : ℕ) : Vertex → Type 0 where
  is_owned : {n : ℕ} → Owns w c token n → IsOwned w c token (Method n)

pub record IsOwn (w : Linked) (c token : ℕ) (vertices : List Vertex) : Type 0 where
  pub only : (v : Vertex) → Contains vertices v → IsOwned w c token v
  pub all : (n : ℕ) → Owns w c token n → Contains vertices (Method n)

-- ---- rows as numbers

-- a vertex of these has the number
pub record HasVertex (methods : ℕ) (meanings : List Meaning) (IsOne : Vertex → Type 0) (u : ℕ) : Type 0 where
  pub vertex : Vertex
  pub is_one : IsOne vertex
  pub stands : Stands methods meanings vertex u

-- the number of a vertex stands in the row
pub record HasNumber (methods : ℕ) (meanings : List Meaning) (row : List ℕ) (v : Vertex) : Type 0 where
  pub number : ℕ
  pub there : Contains row number
  pub stands : Stands methods meanings v number

-- the numbers of the vertices of which the relation holds
pub record AreNumbers (methods : ℕ) (meanings : List Meaning) (IsOne : Vertex → Type 0) (row : List ℕ) : Type 0 where
  pub only : (u : ℕ) → Contains row u → HasVertex methods meanings IsOne u
  pub all : (v : Vertex) → IsOne v → HasNumber methods meanings row v

-- ---- the graph

-- each of the first rows has the numbers of the vertices to which edges go
abbrev pub AreRows : Linked → Spread → List Meaning → List (List ℕ) → Type 0
AreRows w s meanings rows =
    (v : Vertex) (u : ℕ)
    → u < length rows
    → Stands (length w.methods) meanings v u
    → AreNumbers (length w.methods) meanings (Leads w s v) (next rows u)

-- a graph of the methods, and of meanings that have all to which edges go
pub record IsCallGraph (w : Linked) (g : List (List ℕ)) : Type 0 where
  pub spread : Spread
  pub meanings : List Meaning
  pub spreads : IsSpread w.classes spread
  pub count : length g ≡ length w.methods + length meanings
  pub rows : AreRows w spread meanings g

-- ---- subclasses

-- the direct subclasses of a class
pub record AreSubclasses (t : ClassTable) (c : ℕ) (row : List ℕ) : Type 0 where
  pub only : (d : ℕ) → Contains row d → parent_of t d ≡ Some c
  pub all : (d : ℕ) → parent_of t d ≡ Some c → Contains row d

-- of each class of the first ones
abbrev pub AreAllSubclasses : ClassTable → List (List ℕ) → Type 0
AreAllSubclasses t rows = (c : ℕ) → c < length rows → AreSubclasses t c (next rows c)

-- one more in the row of a class
pub record IsAdded (old : List (List ℕ)) (c d : ℕ) (new : List (List ℕ)) : Type 0 where
  pub before : List ℕ
  pub found : slice_get old c ≡ Some before
  pub set_is : new ≡ slice_set old c (before ++ d ∷ [])
