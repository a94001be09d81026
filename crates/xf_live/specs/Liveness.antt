-- The search for live registers: a list of nodes whose sets are still to be carried to those before them.
use Rattle.std.specs.Prelude.{◌≡◌, ◌⊎◌, ℕ, ◌+◌, ◌*◌, ◌^◌, ◌-◌, ◌<◌, ◌≤◌, List, [], ◌∷◌, ◌++◌, length, sum_by, Some, Contains}
use Rattle.std.specs.Prelude.{slice_get, slice_set}
use Rattle.xf_live.specs.declared.live.Liveness.{Liveness}
use Rattle.xf_live.specs.declared.live.Node.{Node}
use Rattle.xf_live.specs.declared.set.RegisterSet.{RegisterSet}
use Rattle.xf_live.specs.Set.{Has, IsUnion, weight, IsSmall}
use Rattle.xf_live.specs.Live.{IsLive, set_at}

abbrev pub IsPending : Liveness → ℕ → Type 0
IsPending s n = Contains s.pending.items n

-- ---- steps

-- these registers too are live at a node; it is pending where one of them is new
pub data Raises (n : ℕ) (more : RegisterSet) (old new : Liveness) : Type 0 where
  raised_before : new ≡ old → IsUnion (set_at old.sets.items n) more (set_at old.sets.items n) → Raises n more old new
  raised_now :
      (set : RegisterSet)
      → new.sets.items ≡ slice_set old.sets.items n set
      → new.pending.items ≡ old.pending.items ++ n ∷ []
      → IsUnion (set_at old.sets.items n) more set
      → weight (set_at old.sets.items n) < weight set
      → IsSmall set
      → Raises n more old new

-- this node is taken up
pub record TakesUp (n : ℕ) (old new : Liveness) : Type 0 where
  pub sets : new.sets.items ≡ old.sets.items
  pub pending : old.pending.items ≡ new.pending.items ++ n ∷ []

-- nothing is pending
pub record IsDone (old new : Liveness) : Type 0 where
  pub sets : new.sets.items ≡ old.sets.items
  pub pending : old.pending.items ≡ []

-- the most that sets of these nodes can weigh together
abbrev pub room : List RegisterSet → ℕ
room sets = length sets * 2 ^ 66

abbrev pub AreSmall : List RegisterSet → Type 0
AreSmall sets = (n : ℕ) → IsSmall (set_at sets n)

-- what is left to do: each rise takes at least one from what sets may still weigh, counted twice, and adds a pending node
abbrev pub work : Liveness → ℕ
work s = 2 * (room s.sets.items - sum_by weight s.sets.items) + length s.pending.items

-- sets only rise, and one that rose is pending
pub record Grows (old new : Liveness) : Type 0 where
  pub size : length new.sets.items ≡ length old.sets.items
  pub has : (n x : ℕ) → Has (set_at old.sets.items n) x → Has (set_at new.sets.items n) x
  pub fresh : (n : ℕ) → (set_at new.sets.items n ≡ set_at old.sets.items n) ⊎ IsPending new n
  pub pending : (n : ℕ) → IsPending old n → IsPending new n
  pub small : AreSmall old.sets.items → AreSmall new.sets.items
  pub less :
      2 * sum_by weight old.sets.items + length new.pending.items ≤ 2 * sum_by weight new.sets.items + length old.pending.items

-- ---- what is found

-- what is found is live
abbrev pub IsSound : List Node → Liveness → Type 0
IsSound nodes s = (n x : ℕ) → Has (set_at s.sets.items n) x → IsLive nodes x n

-- what is in a set and not written at the node is found there
abbrev pub IsCarried : List Node → RegisterSet → ℕ → Liveness → Type 0
IsCarried nodes live n s =
    (node : Node) (x : ℕ) → slice_get nodes n ≡ Some node → Has live x → ¬ (Has node.writes x) → Has (set_at s.sets.items n) x

-- a set is carried to a node before the one whose set it is
pub record Carries (nodes : List Node) (n : ℕ) (live : RegisterSet) (old new : Liveness) : Type 0 where
  pub grows : Grows old new
  pub carried : IsCarried nodes live n new
  pub sound :
      (q : ℕ) (after : Node)
      → slice_get nodes q ≡ Some after
      → Contains after.from.items n
      → ((x : ℕ) → Has live x → IsLive nodes x q)
      → IsSound nodes old
      → IsSound nodes new

-- the set of a node is carried to all nodes before it
abbrev pub IsClosedAt : List Node → Liveness → ℕ → Type 0
IsClosedAt nodes s q =
    (after : Node) (n : ℕ)
    → slice_get nodes q ≡ Some after
    → Contains after.from.items n
    → IsCarried nodes (set_at s.sets.items q) n s

pub record CarriesAll (nodes : List Node) (q : ℕ) (old new : Liveness) : Type 0 where
  pub grows : Grows old new
  pub closed : IsPending new q ⊎ IsClosedAt nodes new q
  pub sound : IsSound nodes old → IsSound nodes new

-- each node is pending or its set is carried on
abbrev pub IsClosed : List Node → Liveness → Type 0
IsClosed nodes s = (q : ℕ) → IsPending s q ⊎ IsClosedAt nodes s q

-- what is read is found
abbrev pub HasReads : List Node → Liveness → Type 0
HasReads nodes s = (n x : ℕ) (node : Node) → slice_get nodes n ≡ Some node → Has node.reads x → Has (set_at s.sets.items n) x

-- the search at its start
pub record Begins (nodes : List Node) (s : Liveness) : Type 0 where
  pub size : length s.sets.items ≡ length nodes
  pub small : AreSmall s.sets.items
  pub sound : IsSound nodes s
  pub closed : IsClosed nodes s
  pub reads : HasReads nodes s

-- so far for the nodes before a number
pub record BegunTo (nodes : List Node) (count : ℕ) (s : Liveness) : Type 0 where
  pub size : length s.sets.items ≡ length nodes
  pub small : AreSmall s.sets.items
  pub sound : IsSound nodes s
  pub closed : IsClosed nodes s
  pub reads :
      (n x : ℕ) (node : Node)
      → n < count
      → slice_get nodes n ≡ Some node
      → Has node.reads x
      → Has (set_at s.sets.items n) x
