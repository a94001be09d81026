-- What a dataflow analysis keeps while it goes on, and what makes it end (Leroy 2002, section 2.3).
use Rattle.std.specs.Prelude.{◌≡◌, ℕ, ◌+◌, ◌*◌, ◌<◌, ◌≤◌, ◌⊎◌, Bool, if◌then◌else◌, length, All}
use Rattle.std.specs.Prelude.{Contains, Option, Some, None, sum_by, IsTrue}
use Rattle.jc_base.specs.declared.ty.Ty.TheVariants.{Top}
use Rattle.jc_base.specs.declared.record.Handler.{Handler}
use Rattle.jc_base.specs.Class.{ClassTable, height}
use Rattle.jc_base.specs.World.{Linked}
use Rattle.jc_decode.specs.declared.insn.Placed.{Placed}
use Rattle.jc_decode.specs.Listing.{falls}
use Rattle.jc_rules.specs.Demand.{Frame}
use Rattle.jc_control.specs.Method.{Method}
use Rattle.jc_control.specs.WellFormed.{HasInstruction, IsPlace}
use Rattle.jc_control.specs.Control.{IsLeader, Covers}
use Rattle.jc_rules.specs.Flow.{IsNotFresh, IsNotTop, At, FrameBelow, caught_frame, IsFollowed, IsDerived}
use Rattle.jc_rules.specs.Typing.{state_at, rises_of}
use Rattle.jc_flow.specs.Found.{Found, IsPending}

-- ---- the frames that are found

-- a frame that may stand at a place: it is derived, and fits
pub record IsHeld (w : Linked) (m : Method) (p : ℕ) (f : Frame) : Type 0 where
  pub derived : IsDerived w m Top p f
  pub place : IsPlace m.code p
  pub room : length f.stack ≤ m.rec.max_stack
  pub no_top : All IsNotTop f.stack
  pub ready : IsLeader m p → All IsNotFresh f.stack

-- a table with places for the method's code, in which each frame may stand where it stands
pub record AreHeld (w : Linked) (m : Method) (found : Found) : Type 0 where
  pub places : length found.states ≡ length m.code
  pub flags : length found.pending ≡ length m.code
  pub held : (p : ℕ) (f : Frame) → state_at found.states p ≡ Some f → IsHeld w m p f

-- where the frame at a place leads, a greater frame is found already
pub record IsClosed (w : Linked) (m : Method) (found : Found) (p : ℕ) (f : Frame) : Type 0 where
  pub handlers :
      (h : Handler)
      → Contains m.rec.handlers h
      → Covers h p
      → At (state_at found.states) h.entry (FrameBelow w.classes (caught_frame h f))
  pub rule : (i : Placed) → HasInstruction m.code i → i.place ≡ p → IsFollowed w m (state_at found.states) i f
  pub stays : (i : Placed) → HasInstruction m.code i → i.place ≡ p → IsTrue (falls i.insn.op)
      → i.place + i.insn.len < length m.code

-- each frame is closed, or its place waits
abbrev pub AreClosed : Linked → Method → Found → Type 0
AreClosed w m found = (p : ℕ) (f : Frame) → state_at found.states p ≡ Some f → IsPending found p ⊎ IsClosed w m found p f

-- ---- the measure

-- more than the times that a frame of the method can rise
abbrev pub most_rises : ClassTable → Method → ℕ
most_rises t m = (m.rec.nargs + m.rec.max_locals + m.rec.max_stack) * (height t + 3) + 1

abbrev pub rises_there : ClassTable → ℕ → Option Frame → ℕ
rises_there t most None = most
rises_there t most (Some f) = rises_of t f

abbrev pub one_if : Bool → ℕ
one_if b = if b then 1 else 0

-- what is left to do: each rise of a frame makes a place wait once
abbrev pub work : ClassTable → ℕ → Found → ℕ
work t most found = 2 * sum_by (rises_there t most) found.states + sum_by one_if found.pending

-- ---- steps

-- frames only rise, where one changes its place waits, no place stops to wait, and the work does not grow
pub record Grown (t : ClassTable) (most : ℕ) (old new : Found) : Type 0 where
  pub above : (p : ℕ) (f : Frame) → state_at old.states p ≡ Some f → At (state_at new.states) p (FrameBelow t f)
  pub stays : (p : ℕ) → (state_at new.states p ≡ state_at old.states p) ⊎ IsPending new p
  pub keeps : (p : ℕ) → IsPending old p → IsPending new p
  pub less : work t most new ≤ work t most old
