-- Which class serves an interface for which others, over blocks of an order of the classes (JCVM 2.2, section 6.8.2). An interface
-- that many classes implement is served through few blocks, whose nodes all interfaces share.
use Rattle.std.specs.Prelude.{◌≡◌, ℕ, ◌+◌, ◌*◌, ◌<◌, ◌≤◌, ◌⊎◌, ◌==◌, ◌++◌, true, if◌then◌else◌, List, [], ◌∷◌, length, Option}
use Rattle.std.specs.Prelude.{Some, None, Contains, find, slice_get, slice_index_or}
use Rattle.jc_base.specs.declared.record.Iface.{Iface}
use Rattle.jc_base.specs.Class.{ClassTable, IsClass, is_interface}
use Rattle.vm_step.specs.Calls.{interfaces_of, serving}
use Rattle.vm_bound.specs.declared.spread.Block.{Block}
use Rattle.vm_bound.specs.declared.spread.Spread.{Spread}

-- ---- a tree over positions

-- the two halves of a node of the tree
abbrev pub IsHalf : ℕ → ℕ → Type 0
IsHalf x y = (y ≡ x * 2) ⊎ (y ≡ x * 2 + 1)

-- the position is under the node of a tree over so many positions: the nodes from their number on are one position each, and those below
-- it have two halves
pub data Under (count : ℕ) : ℕ → ℕ → Type 0 where
  under_one : {x p : ℕ} → x ≡ count + p → Under count x p
  under_half : {x y p : ℕ} → x < count → IsHalf x y → Under count y p → Under count x p

-- ---- blocks of positions

-- a block at which one class stands, of positions from one to before another
pub record IsPart (count from to by : ℕ) (b : Block) : Type 0 where
  pub by_is : b.by ≡ by
  pub node : 0 < b.node
  pub inside : (p : ℕ) → Under count b.node p → (from ≤ p) × (p < to)

-- a block of that class which has the position
pub record IsInPart (count by : ℕ) (blocks : List Block) (p : ℕ) : Type 0 where
  pub block : Block
  pub among : Contains blocks block
  pub by_is : block.by ≡ by
  pub under : Under count block.node p

-- blocks for all positions from one to before another are added
pub record IsCovered (count from to by : ℕ) (old new : List Block) : Type 0 where
  pub kept : (b : Block) → Contains old b → Contains new b
  pub only : (b : Block) → Contains new b → Contains old b ⊎ IsPart count from to by b
  pub all : (p : ℕ) → from ≤ p → p < to → IsInPart count by new p

-- where a class stands there
abbrev pub AddsRun : ℕ → ℕ → ℕ → Option ℕ → List Block → List Block → Type 0
AddsRun count from to None old new = new ≡ old
AddsRun count from to (Some by) old new = IsCovered count from to by old new

-- a block added where a remainder is 1
abbrev pub with_if : List Block → ℕ → Block → List Block
with_if blocks odd b = if odd == 1 then blocks ++ b ∷ [] else blocks

-- ---- what serves an interface

-- the entry for an interface that a class names itself
abbrev pub named : ClassTable → ℕ → ℕ → Option Iface
named t interface class = find (λ (e : Iface). e.class == interface) (interfaces_of t class)

-- the class whose own entry serves an interface for a class
abbrev pub IsNearest : ClassTable → ℕ → ℕ → Option ℕ → Type 0
IsNearest t interface class None = serving t interface class ≡ None
IsNearest t interface class (Some by) = serving t interface class ≡ named t interface by

-- each class stands in the order, and nothing else does
pub record IsOrder (t : ClassTable) (order : List ℕ) : Type 0 where
  pub only : (p c : ℕ) → slice_get order p ≡ Some c → IsClass t c
  pub all : (c : ℕ) → IsClass t c → (p : ℕ) × (slice_get order p ≡ Some c)

-- more classes in an order than before, by one at most
pub record IsPlaced (t : ClassTable) (old : List ℕ) (class : ℕ) (new : List ℕ) : Type 0 where
  pub kept : (c : ℕ) → Contains old c → Contains new c
  pub only : (c : ℕ) → Contains new c → Contains old c ⊎ IsClass t c
  pub there : IsClass t class → Contains new class
  pub many : length new ≤ length old + 1

-- one class serves the interface for each class under the node
pub record IsServed (t : ClassTable) (order : List ℕ) (interface : ℕ) (b : Block) : Type 0 where
  pub node : 0 < b.node
  pub serves : (p c : ℕ) → Under (length order) b.node p → slice_get order p ≡ Some c → serving t interface c ≡ named t interface b.by

-- a block has the position
pub record HasPosition (count : ℕ) (blocks : List Block) (p : ℕ) : Type 0 where
  pub block : Block
  pub among : Contains blocks block
  pub under : Under count block.node p

-- the blocks of an interface: each class that implements it is under one of them
pub record AreBlocks (t : ClassTable) (order : List ℕ) (interface : ℕ) (blocks : List Block) : Type 0 where
  pub only : (b : Block) → Contains blocks b → IsServed t order interface b
  pub all :
      (p c : ℕ) (e : Iface)
      → slice_get order p ≡ Some c
      → serving t interface c ≡ Some e
      → HasPosition (length order) blocks p

-- where it is one
abbrev pub AreBlocksOf : ClassTable → List ℕ → ℕ → List Block → Type 0
AreBlocksOf t order interface blocks = is_interface t interface ≡ true → AreBlocks t order interface blocks

-- by number those of the first ones
abbrev pub AreAllBlocks : ClassTable → List ℕ → List (List Block) → Type 0
AreAllBlocks t order all = (interface : ℕ) → interface < length all → AreBlocksOf t order interface (slice_index_or all interface [])

-- those of an interface by its number
abbrev pub blocks_of : Spread → ℕ → List Block
blocks_of s interface = slice_index_or s.blocks interface []

-- an order of the classes, and over it the blocks of each interface
pub record IsSpread (t : ClassTable) (s : Spread) : Type 0 where
  pub ordered : IsOrder t s.order
  pub count : length s.blocks ≡ length t.records
  pub are : AreAllBlocks t s.order s.blocks
