-- The flow graph of a method (Aho, Lam, Sethi and Ullman, section 9.2.5): a node for each place of its code and for the end. Behind these
-- stands one more for each place, through which an instruction there leads to the entries of the handlers that cover it; from one such node
-- control goes to that of the place before, as far as the same handlers cover both.
use Rattle.std.specs.Prelude.{◌≡◌, ◌↔◌, ◌⊎◌, ℕ, suc, ◌+◌, ◌<◌, ◌≤◌, ℤ, pos, List, length, Some, Contains, IsTrue, slice_get}
use Rattle.jc_base.specs.declared.record.Handler.{Handler}
use Rattle.jc_base.specs.World.{Linked}
use Rattle.jc_decode.specs.declared.insn.Placed.{Placed}
use Rattle.jc_decode.specs.Listing.{falls, targets}
use Rattle.jc_control.specs.Control.{Covers}
use Rattle.jc_control.specs.Method.{Method}
use Rattle.jc_ops.specs.declared.operation.Operation.{Operation}
use Rattle.law_share.specs.Live.{Operates, IsLiveAt}
use Rattle.law_share.specs.Variable.{Clash}
use Rattle.xf_allot.specs.Uses.{AreUsesOf}
use Rattle.xf_live.specs.declared.graph.Edge.{Edge}
use Rattle.xf_live.specs.declared.graph.Uses.{Uses}
use Rattle.xf_live.specs.declared.interference.Interference.{Interference}
use Rattle.xf_live.specs.Interference.{Tells}
use Rattle.xf_live.specs.Set.{Has}

-- ---- nodes

-- the node of handlers at a place
abbrev pub caught_at : ℕ → ℕ → ℕ
caught_at size place = suc size + place

-- the first place, and those at which the range of a handler begins or has ended
pub data IsBound (handlers : List Handler) : ℕ → Type 0 where
  bound_first : IsBound handlers 0
  bound_start : (h : Handler) → Contains handlers h → IsBound handlers h.start
  bound_end : (h : Handler) → Contains handlers h → IsBound handlers h.end

abbrev pub IsBlank : Uses → Type 0
IsBlank u = (x : ℕ) → (¬ (Has u.reads x)) × (¬ (Has u.writes x))

-- an instruction stands at the place, and has an operation
pub record IsOperatedAt (w : Linked) (m : Method) (place : ℕ) : Type 0 where
  pub instruction : Placed
  pub op : Operation
  pub operates : Operates w m instruction op
  pub at : instruction.place ≡ place

-- the node of a place has what the operation there reads and writes, and nothing where there is none
pub record IsNodeAt (w : Linked) (m : Method) (place : ℕ) (u : Uses) : Type 0 where
  pub here : (i : Placed) (op : Operation) → Operates w m i op → i.place ≡ place → AreUsesOf w op u
  pub reads : (x : ℕ) → Has u.reads x → IsOperatedAt w m place
  pub writes : (x : ℕ) → Has u.writes x → IsOperatedAt w m place

-- ---- edges

-- from an instruction to the one after it
pub record IsFall (i : Placed) (edge : Edge) : Type 0 where
  pub falls : IsTrue (falls i.insn.op)
  pub at : edge.from ≡ i.place
  pub to : edge.to ≡ i.place + i.insn.len

-- to one of these targets
pub record IsJumpTo (targets : List ℤ) (i : Placed) (edge : Edge) : Type 0 where
  pub leads : Contains targets (pos edge.to)
  pub at : edge.from ≡ i.place

-- to one of its own
abbrev pub IsJump : Method → Placed → Edge → Type 0
IsJump m i edge = IsJumpTo (targets m.code i) i edge

-- from a node to the entry of a handler that covers a place
pub record IsEnter (h : Handler) (place node : ℕ) (edge : Edge) : Type 0 where
  pub covers : Covers h place
  pub at : edge.from ≡ node
  pub to : edge.to ≡ h.entry

pub record IsEntryOf (handlers : List Handler) (place node : ℕ) (edge : Edge) : Type 0 where
  pub handler : Handler
  pub listed : Contains handlers handler
  pub enters : IsEnter handler place node edge

-- from the node of an instruction
pub data IsOut (m : Method) (i : Placed) (edge : Edge) : Type 0 where
  out_fall : IsFall i edge → IsOut m i edge
  out_jump : IsJump m i edge → IsOut m i edge
  out_caught : edge.from ≡ i.place → edge.to ≡ caught_at (length m.code) i.place → IsOut m i edge

-- from the node of handlers at a place
pub data IsCatch (m : Method) (place : ℕ) (edge : Edge) : Type 0 where
  catch_before :
      ¬ (IsBound m.rec.handlers place)
      → edge.from ≡ caught_at (length m.code) place
      → suc edge.to ≡ caught_at (length m.code) place
      → IsCatch m place edge
  catch_entry :
      IsBound m.rec.handlers place
      → IsEntryOf m.rec.handlers place (caught_at (length m.code) place) edge
      → IsCatch m place edge

-- from both nodes of a place
pub data IsEdgeAt (w : Linked) (m : Method) (place : ℕ) (edge : Edge) : Type 0 where
  edge_out : (i : Placed) (op : Operation) → Operates w m i op → i.place ≡ place → IsOut m i edge → IsEdgeAt w m place edge
  edge_catch : IsCatch m place edge → IsEdgeAt w m place edge

-- ---- the graph

-- the edges of the second list are those of the first and these
abbrev pub Adds : (Edge → Type 0) → List Edge → List Edge → Type 0
Adds P old new = (edge : Edge) → Contains new edge ↔ Contains old edge ⊎ P edge

-- the node of this number, as far as the places before another are looked at
pub record IsNodeTo (w : Linked) (m : Method) (count n : ℕ) (u : Uses) : Type 0 where
  pub looked : n < count → IsNodeAt w m n u
  pub blank : count ≤ n → IsBlank u

-- the graph as far as the places before one are looked at
pub record IsGraphTo (w : Linked) (m : Method) (count : ℕ) (uses : List Uses) (edges : List Edge) : Type 0 where
  pub size : length uses ≡ suc (length m.code) + length m.code
  pub nodes : (n : ℕ) (u : Uses) → slice_get uses n ≡ Some u → IsNodeTo w m count n u
  pub edges_are : (edge : Edge) → Contains edges edge ↔ ((place : ℕ) × (place < count) × IsEdgeAt w m place edge)

abbrev pub IsGraphOf : Linked → Method → List Uses → List Edge → Type 0
IsGraphOf w m uses edges = IsGraphTo w m (length m.code) uses edges

-- ---- what it is for

-- two registers may not become one: one is written where the other is live after it, or both are live at the method's start
pub data AreApart (w : Linked) (m : Method) (x y : ℕ) : Type 0 where
  apart_forth : Clash w m x y → AreApart w m x y
  apart_back : Clash w m y x → AreApart w m x y
  apart_first : IsLiveAt w m x 0 → IsLiveAt w m y 0 → AreApart w m x y

-- what is found says so
abbrev pub AreFound : Linked → Method → Interference → Type 0
AreFound w m found = (x y : ℕ) → x < 256 → y < 256 → Tells found x y ↔ AreApart w m x y
