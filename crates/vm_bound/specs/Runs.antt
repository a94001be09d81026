-- Runs of positions of an order of the classes at which one class serves an interface. In an order in depth the classes at and below a
-- class stand next to each other, from its own position up to an end.
use Rattle.std.specs.Prelude.{◌≡◌, ℕ, ◌<◌, ◌≤◌, ◌⊎◌, true, List, length, Option, Some, None, is_some, Contains, slice_get, slice_index_or}
use Rattle.std.specs.List.Sorted.{IsNonDecreasing}
use Rattle.jc_base.specs.declared.record.Iface.{Iface}
use Rattle.jc_base.specs.Class.{ClassTable, parent_of}
use Rattle.digraph.specs.Graph.{next}
use Rattle.vm_bound.specs.declared.spread.Block.{Block}
use Rattle.vm_bound.specs.Blocks.{Under, HasPosition, named}

-- ---- where classes below one end

-- the end that is told for a position
abbrev pub end_of : List ℕ → ℕ → ℕ
end_of ends p = slice_index_or ends p 0

-- a position stands from another one on, and before the end of that one
abbrev pub IsWithin : List ℕ → ℕ → ℕ → Type 0
IsWithin ends p q = (p ≤ q) × (q < end_of ends p)

-- the class at a position has a superclass, which stands before it: both are within the same other positions
pub record IsUnder (order ends : List ℕ) (q parent : ℕ) : Type 0 where
  pub up : ℕ
  pub before : up < q
  pub class : slice_get order up ≡ Some parent
  pub down : (p : ℕ) → ¬ (p ≡ q) → IsWithin ends p up → IsWithin ends p q
  pub back : (p : ℕ) → ¬ (p ≡ q) → IsWithin ends p q → IsWithin ends p up

-- a class without superclass is within no other position
abbrev pub IsUnderParent : List ℕ → List ℕ → ℕ → Option ℕ → Type 0
IsUnderParent order ends q None = (p : ℕ) → IsWithin ends p q → p ≡ q
IsUnderParent order ends q (Some parent) = IsUnder order ends q parent

-- by position in an order the end of the classes at and below the one there
pub record AreEnds (t : ClassTable) (order ends : List ℕ) : Type 0 where
  pub count : length ends ≡ length order
  pub own : (q : ℕ) → q < length order → q < end_of ends q
  pub under : (q c : ℕ) → slice_get order q ≡ Some c → IsUnderParent order ends q (parent_of t c)

-- each number is less than all later ones
abbrev pub AreRising : List ℕ → Type 0
AreRising xs = (i j : ℕ) → i < j → j < length xs → slice_index_or xs i 0 < slice_index_or xs j 0

-- the positions before one are gone through. For a begun one, whose class may have more classes below it, the end of all is still told
pub record IsWalk (t : ClassTable) (order : List ℕ) (at : ℕ) (begun ends : List ℕ) : Type 0 where
  pub count : length ends ≡ length order
  pub own : (p : ℕ) → p < length order → p < end_of ends p
  pub later : (p : ℕ) → at ≤ p → p < length order → end_of ends p ≡ length order
  pub told : (p : ℕ) → Contains begun p → (p < at) × (end_of ends p ≡ length order)
  pub rising : AreRising begun
  pub apart : (u p : ℕ) → Contains begun u ⊎ (u ≡ at) → p < u → Contains begun p ⊎ (end_of ends p ≤ u)
  pub under : (q c : ℕ) → q < at → slice_get order q ≡ Some c → IsUnderParent order ends q (parent_of t c)

-- ---- the positions of the classes that name an interface

-- the class at a position names an interface itself
pub record IsNamed (t : ClassTable) (order : List ℕ) (interface p : ℕ) : Type 0 where
  pub class : ℕ
  pub at : slice_get order p ≡ Some class
  pub names : is_some (named t interface class) ≡ true

-- all of them
pub record AreNaming (t : ClassTable) (order : List ℕ) (interface : ℕ) (naming : List ℕ) : Type 0 where
  pub only : (p : ℕ) → Contains naming p → IsNamed t order interface p
  pub all : (p : ℕ) → IsNamed t order interface p → Contains naming p
  pub rising : IsNonDecreasing naming

-- of each of the first interfaces
abbrev pub AreAllNaming : ClassTable → List ℕ → List (List ℕ) → Type 0
AreAllNaming t order rows = (interface : ℕ) → interface < length rows → AreNaming t order interface (next rows interface)

-- one of these entries is for the interface
pub record HasEntry (entries : List Iface) (interface : ℕ) : Type 0 where
  pub entry : Iface
  pub among : Contains entries entry
  pub class : entry.class ≡ interface

-- a position comes last in the rows of the interfaces of these entries
pub record AreAdded (old : List (List ℕ)) (entries : List Iface) (at : ℕ) (new : List (List ℕ)) : Type 0 where
  pub count : length new ≡ length old
  pub kept : (i p : ℕ) → Contains (next old i) p → Contains (next new i) p
  pub only : (i p : ℕ) → Contains (next new i) p → Contains (next old i) p ⊎ ((p ≡ at) × HasEntry entries i)
  pub there : (i : ℕ) → i < length old → HasEntry entries i → Contains (next new i) at
  pub rising :
      ((i p : ℕ) → Contains (next old i) p → p ≤ at)
      → ((i : ℕ) → IsNonDecreasing (next old i))
      → (i : ℕ)
      → IsNonDecreasing (next new i)

-- ---- runs

-- at each position under the node of a block its class is the one
pub record IsRun (count : ℕ) (IsBy : ℕ → Option ℕ → Type 0) (b : Block) : Type 0 where
  pub node : 0 < b.node
  pub same : (p : ℕ) → Under count b.node p → IsBy p (Some b.by)

-- blocks for the positions before a bound, by the class that is the one at a position
pub record AreRuns (count : ℕ) (IsBy : ℕ → Option ℕ → Type 0) (bound : ℕ) (blocks : List Block) : Type 0 where
  pub only : (b : Block) → Contains blocks b → IsRun count IsBy b
  pub all : (p : ℕ) → p < bound → IsBy p None ⊎ HasPosition count blocks p

-- the last of the naming positions that a position is within
pub record IsInnermost (ends naming : List ℕ) (p m : ℕ) : Type 0 where
  pub among : Contains naming m
  pub within : IsWithin ends m p
  pub last : (k : ℕ) → Contains naming k → IsWithin ends k p → k ≤ m

-- the class there; none where the position is within none of them
abbrev pub IsByInnermost : List ℕ → List ℕ → List ℕ → ℕ → Option ℕ → Type 0
IsByInnermost order ends naming p None = (k : ℕ) → Contains naming k → ¬ (IsWithin ends k p)
IsByInnermost order ends naming p (Some by) = (m : ℕ) × IsInnermost ends naming p m × (slice_get order m ≡ Some by)

-- blocks for the positions before one are made, of which so many that name an interface are begun; those that are left have ended
pub record IsSweep (order ends naming : List ℕ) (k at : ℕ) (begun : List ℕ) (blocks : List Block) : Type 0 where
  pub runs : AreRuns (length order) (IsByInnermost order ends naming) at blocks
  pub among : (p : ℕ) → Contains begun p → Contains naming p × (p ≤ at)
  pub ended : (j : ℕ) → j < k → Contains begun (slice_index_or naming j 0) ⊎ (end_of ends (slice_index_or naming j 0) ≤ at)
  pub rising : IsNonDecreasing begun

-- no later one of those stands before a position
abbrev pub IsFree : List ℕ → ℕ → ℕ → Type 0
IsFree naming k to = (j : ℕ) → k ≤ j → j < length naming → to ≤ slice_index_or naming j 0

-- the blocks for the positions from one to before another are made, whichever positions name the interface, where none of them is between
abbrev pub Sweeps : List ℕ → List ℕ → ℕ → ℕ → List ℕ → List Block → List ℕ → List Block → Type 0
Sweeps order ends from to begun blocks now made =
    (naming : List ℕ) (k : ℕ) → IsFree naming k to → IsSweep order ends naming k from begun blocks → IsSweep order ends naming k to now made
