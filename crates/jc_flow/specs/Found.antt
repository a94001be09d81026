-- What a dataflow analysis has found so far (Leroy 2002, section 2.3: Kildall's algorithm over a list of places that wait).
use Rattle.std.specs.Prelude.{◌≡◌, ℕ, ◌<◌, ◌≤◌, Bool, true, false, List, length, All, Option, Some, None, slice_index_or}
use Rattle.std.specs.Prelude.{slice_set, IsSomeAnd, ⊤}
use Rattle.jc_base.specs.Class.{ClassTable}
use Rattle.jc_base.specs.Order.{IsKnown}
use Rattle.jc_rules.specs.Demand.{Frame}
use Rattle.jc_rules.specs.Flow.{Merges}
use Rattle.jc_rules.specs.Typing.{state_at, rises_of, Clashes}
use Rattle.jc_flow.specs.declared.table.PutEnd.{PutEnd}
use Rattle.jc_flow.specs.declared.table.PutEnd.TheVariants.{Clash, Memory}

-- by place the frame that is found, and whether the place waits
pub record Found : Type 0 where
  pub states : List (Option Frame)
  pub pending : List Bool

abbrev pub IsPending : Found → ℕ → Type 0
IsPending found place = slice_index_or found.pending place false ≡ true

-- a frame stands at the place, which waits
abbrev pub with_state : Found → ℕ → Frame → Found
with_state found place f = record { states = slice_set found.states place (Some f); pending = slice_set found.pending place true }

-- the place waits no more
abbrev pub taken_up : Found → ℕ → Found
taken_up found place = record { states = found.states; pending = slice_set found.pending place false }

-- the least place that waits
pub record IsLeastPending (found : Found) (place : ℕ) : Type 0 where
  pub waits : IsPending found place
  pub least : (q : ℕ) → q < place → ¬ (IsPending found q)

-- no place waits
abbrev pub NonePending : Found → Type 0
NonePending found = (place : ℕ) → ¬ (IsPending found place)

-- the flags have the length of the states, which is that of a method's code, and none is set below low
pub record AreFlags (states : ℕ) (pending : List Bool) (low : ℕ) : Type 0 where
  pub count : length pending ≡ states
  pub few : states ≤ 65535
  pub low_within : low ≤ states
  pub none_below : (q : ℕ) → q < low → slice_index_or pending q false ≡ false

-- a frame whose types are known, with as many registers
pub record HasKnown (t : ClassTable) (registers : ℕ) (f : Frame) : Type 0 where
  pub count : registers ≡ length f.regs
  pub regs : All (IsKnown t) f.regs
  pub stack : All (IsKnown t) f.stack

-- a frame f comes to a place: it is the first there; or the frame that stands there is above it and stays; or their join takes its place
pub data Lands (t : ClassTable) (old : Found) (place : ℕ) (f : Frame) (new : Found) : Type 0 where
  comes_first : state_at old.states place ≡ None → new ≡ with_state old place f → Lands t old place f new
  stays : (g : Frame) → state_at old.states place ≡ Some g → Merges t g f g → new ≡ old → Lands t old place f new
  rises :
      (g j : Frame)
      → state_at old.states place ≡ Some g
      → Merges t g f j
      → rises_of t j < rises_of t g
      → new ≡ with_state old place j
      → Lands t old place f new

-- what stands at a place does not merge with the frame
abbrev pub Prevents : ClassTable → Found → ℕ → Frame → PutEnd → Type 0
Prevents t old place f Clash = IsSomeAnd (state_at old.states place) (λ g. Clashes t g f)
Prevents t old place f Memory = ⊤
