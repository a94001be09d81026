-- Live registers of a flow graph by its edges (Aho, Lam, Sethi and Ullman, section 9.2.5).
use Rattle.std.specs.Prelude.{◌≡◌, ◌↔◌, ℕ, ◌≤◌, List, [], ◌∷◌, ◌++◌, length, Some, Contains, slice_get, slice_set}
use Rattle.xf_live.specs.declared.graph.Edge.{Edge}
use Rattle.xf_live.specs.declared.graph.Uses.{Uses}
use Rattle.xf_live.specs.declared.live.Node.{Node}
use Rattle.xf_live.specs.declared.set.RegisterSet.{RegisterSet}
use Rattle.xf_live.specs.Set.{Has}
use Rattle.xf_live.specs.Live.{set_at}

-- a walk along edges comes from the node to one that reads the register, before any that writes it
pub data IsLiveIn (uses : List Uses) (edges : List Edge) (x : ℕ) : ℕ → Type 0 where
  read_here : (n : ℕ) (u : Uses) → slice_get uses n ≡ Some u → Has u.reads x → IsLiveIn uses edges x n
  kept_on :
      (n q : ℕ) (u : Uses)
      → slice_get uses n ≡ Some u
      → Contains edges (record { «from» = n; to = q })
      → ¬ (Has u.writes x)
      → IsLiveIn uses edges x q
      → IsLiveIn uses edges x n

-- each set has what is live before its node
abbrev pub AreLiveIn : List Uses → List Edge → List RegisterSet → Type 0
AreLiveIn uses edges sets = (n x : ℕ) → Has (set_at sets n) x ↔ IsLiveIn uses edges x n

-- ---- nodes with those from which control comes to each

pub record IsNodeOf (u : Uses) (node : Node) : Type 0 where
  pub reads : node.reads ≡ u.reads
  pub writes : node.writes ≡ u.writes

-- one for each, in order
abbrev pub AreAlone : List Uses → List Node → Type 0
AreAlone [] [] = Unit {0}
AreAlone [] (node ∷ nodes) = ⊥
AreAlone (u ∷ uses) [] = ⊥
AreAlone (u ∷ uses) (node ∷ nodes) = IsNodeOf u node × AreAlone uses nodes

pub record AreUnlinked (uses : List Uses) (nodes : List Node) : Type 0 where
  pub alone : AreAlone uses nodes
  pub none : (q : ℕ) (node : Node) → slice_get nodes q ≡ Some node → node.from.items ≡ []

pub record AreNodesOf (uses : List Uses) (edges : List Edge) (nodes : List Node) : Type 0 where
  pub alone : AreAlone uses nodes
  pub edge :
      (n q : ℕ) (node : Node)
      → slice_get nodes q ≡ Some node
      → Contains edges (record { «from» = n; to = q }) ↔ Contains node.from.items n

pub data GetsEdge (edge : Edge) (old new : List Node) : Type 0 where
  past_end : length old ≤ edge.to → new ≡ old → GetsEdge edge old new
  gets_edge :
      (node after : Node)
      → slice_get old edge.to ≡ Some node
      → new ≡ slice_set old edge.to after
      → after.reads ≡ node.reads
      → after.writes ≡ node.writes
      → after.from.items ≡ node.from.items ++ edge.from ∷ []
      → GetsEdge edge old new
