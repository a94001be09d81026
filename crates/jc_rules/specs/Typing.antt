-- A dataflow typing as it is held: a list with a frame, or none, for each place of the code (Leroy 2002, section 2.3).
use Rattle.std.specs.Prelude.{◌≡◌, ℕ, ◌+◌, ◌<◌, List, length, All, sum_by, Option, Some, None, slice_get, slice_set}
use Rattle.jc_base.specs.declared.ty.Ty.{Ty}
use Rattle.jc_base.specs.Class.{ClassTable}
use Rattle.jc_base.specs.Order.{IsJoin, IsKnown, rises_left}
use Rattle.jc_rules.specs.declared.state.Merged.{Merged}
use Rattle.jc_rules.specs.declared.state.Merged.TheVariants.{Same, Risen, Clashing}
use Rattle.jc_rules.specs.Demand.{Frame}
use Rattle.jc_rules.specs.Flow.{CellsJoin, Merges, IsNotTop}

abbrev pub flat : {X : Type 0} → Option (Option X) → Option X
flat None = None
flat (Some x) = x

-- the frame at a place, where there is one: an assignment of frames to places
unfoldable pub state_at : List (Option Frame) → ℕ → Option Frame
state_at typing place = flat (slice_get typing place)

-- two stacks do not merge: their depths differ, or a cell's join is Top
pub data Clashes (t : ClassTable) (f g : Frame) : Type 0 where
  depths : ¬ (length f.stack ≡ length g.stack) → Clashes t f g
  cells : {joined : List Ty} → CellsJoin t f.stack g.stack joined → ¬ (All IsNotTop joined) → Clashes t f g

-- the join of a type that is held with another: none where it is the one that is held, and else it has fewer rises left
abbrev pub RaisesOrStays : ClassTable → Ty → Ty → Option Ty → Type 0
RaisesOrStays t held other None = IsJoin t held other held
RaisesOrStays t held other (Some j) = IsJoin t held other j × IsKnown t j × (rises_left t j < rises_left t held)

-- how many times the cells of a frame can rise at most
abbrev pub rises_of : ClassTable → Frame → ℕ
rises_of t f = sum_by (rises_left t) f.regs + sum_by (rises_left t) f.stack

-- what becomes of a frame that another is merged into
abbrev pub IsMerged : ClassTable → Frame → Frame → Frame → Merged → Type 0
IsMerged t old other new Same = Merges t old other old × (new ≡ old)
IsMerged t old other new Risen = Merges t old other new × (rises_of t new < rises_of t old)
IsMerged t old other new Clashing = Clashes t old other

-- a frame is merged into the one at a place, and no other place changes
pub record IsMergedAt
    (t : ClassTable) (old : List (Option Frame)) (place : ℕ) (f : Frame) (new : List (Option Frame)) (how : Merged) : Type 0
  where
    pub held : Frame
    pub joined : Frame
    pub there : state_at old place ≡ Some held
    pub set : new ≡ slice_set old place (Some joined)
    pub merged : IsMerged t held f joined how

-- control reaches two places, and each register has one type at both
abbrev pub HaveSameRegisters : Option Frame → Option Frame → Type 0
HaveSameRegisters (Some f) (Some g) = f.regs ≡ g.regs
HaveSameRegisters _ _ = ⊥
