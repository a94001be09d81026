-- The flow graph of a method as it is built.
use Rattle.std.specs.Prelude.{◌≡◌, ℕ, ◌<◌, length, Some, slice_get}
use Rattle.jc_base.specs.World.{Linked}
use Rattle.jc_decode.specs.declared.insn.Placed.{Placed}
use Rattle.jc_control.specs.Method.{Method}
use Rattle.jc_ops.specs.declared.operation.Operation.{Operation}
use Rattle.law_share.specs.Live.{Operates}
use Rattle.xf_allot.specs.declared.building.Building.{Building}
use Rattle.xf_allot.specs.Graph.{IsBlank, IsNodeAt, IsOut, Adds}
use Rattle.xf_live.specs.declared.graph.Edge.{Edge}
use Rattle.xf_live.specs.declared.graph.Uses.{Uses}

-- an edge from the node of an instruction at the place
pub record IsOutAt (w : Linked) (m : Method) (place : ℕ) (edge : Edge) : Type 0 where
  pub instruction : Placed
  pub op : Operation
  pub operates : Operates w m instruction op
  pub at : instruction.place ≡ place
  pub out : IsOut m instruction edge

-- the node of the place is there, and blank
pub record IsAwaited (place : ℕ) (b : Building) : Type 0 where
  pub inside : place < length b.uses.items
  pub blank : (u : Uses) → slice_get b.uses.items place ≡ Some u → IsBlank u

-- the node of the place has what the instruction there has, and all others are as before
pub record HasPlace (w : Linked) (m : Method) (place : ℕ) (old new : Building) : Type 0 where
  pub size : length new.uses.items ≡ length old.uses.items
  pub node : (u : Uses) → slice_get new.uses.items place ≡ Some u → IsNodeAt w m place u
  pub others : (n : ℕ) → ¬ (n ≡ place) → slice_get new.uses.items n ≡ slice_get old.uses.items n
  pub edges_are : Adds (IsOutAt w m place) old.edges.items new.edges.items
