-- Registers of a flow graph that interfere, so that they must not become one (Chaitin 1982).
use Rattle.std.specs.Prelude.{◌≡◌, ◌↔◌, ◌⊎◌, ℕ, ◌<◌, List, length, Some, Contains, slice_get}
use Rattle.xf_live.specs.declared.graph.Edge.{Edge}
use Rattle.xf_live.specs.declared.graph.Uses.{Uses}
use Rattle.xf_live.specs.declared.interference.Interference.{Interference}
use Rattle.xf_live.specs.declared.set.RegisterSet.{RegisterSet}
use Rattle.xf_live.specs.Set.{Has}
use Rattle.xf_live.specs.Live.{set_at}
use Rattle.xf_live.specs.Flow.{IsLiveIn}

-- a node writes the one register, and the other is live where control may come from there
pub record ClashIn (uses : List Uses) (edges : List Edge) (x y : ℕ) : Type 0 where
  pub edge : Edge
  pub listed : Contains edges edge
  pub node : Uses
  pub there : slice_get uses edge.from ≡ Some node
  pub writes : Has node.writes x
  pub live : IsLiveIn uses edges y edge.to

-- one is written where the other is live after it, or both are live before the first node
pub data InterfereIn (uses : List Uses) (edges : List Edge) (x y : ℕ) : Type 0 where
  clash_forth : ClashIn uses edges x y → InterfereIn uses edges x y
  clash_back : ClashIn uses edges y x → InterfereIn uses edges x y
  live_first : IsLiveIn uses edges x 0 → IsLiveIn uses edges y 0 → InterfereIn uses edges x y

-- what is found says so of the two registers
pub data Tells (found : Interference) (x y : ℕ) : Type 0 where
  told_forth : Has (set_at found.after.items x) y → Tells found x y
  told_back : Has (set_at found.after.items y) x → Tells found x y
  told_first : Has found.first x → Has found.first y → Tells found x y

-- and does exactly where they interfere
abbrev pub AreInterfering : List Uses → List Edge → Interference → Type 0
AreInterfering uses edges found = (x y : ℕ) → x < 256 → y < 256 → Tells found x y ↔ InterfereIn uses edges x y

-- ---- how they are found

-- the registers that the node of this number writes
abbrev pub WritesAt : List Uses → ℕ → RegisterSet → Type 0
WritesAt uses n written = (x : ℕ) → Has written x ↔ ((node : Uses) × (slice_get uses n ≡ Some node) × Has node.writes x)

-- with each register below a number that is written there are those that are live after it
pub record PutsTo (written live : RegisterSet) (count : ℕ) (old new : List RegisterSet) : Type 0 where
  pub size : length new ≡ length old
  pub has :
      (x y : ℕ)
      → x < 256
      → Has (set_at new x) y ↔ Has (set_at old x) y ⊎ ((x < count) × Has written x × Has live y)

-- one of these edges comes from a node that writes the register, to one with the other in its set
pub record IsAfter (uses : List Uses) (sets : List RegisterSet) (edges : List Edge) (x y : ℕ) : Type 0 where
  pub edge : Edge
  pub listed : Contains edges edge
  pub node : Uses
  pub there : slice_get uses edge.from ≡ Some node
  pub writes : Has node.writes x
  pub live : Has (set_at sets edge.to) y

pub record AreAfter (uses : List Uses) (sets : List RegisterSet) (edges : List Edge) (after : List RegisterSet) : Type 0 where
  pub size : length after ≡ 256
  pub has : (x y : ℕ) → x < 256 → Has (set_at after x) y ↔ IsAfter uses sets edges x y
