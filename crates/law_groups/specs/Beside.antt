-- A frame of the laid code beside one of its source, and two states whose frames on top are so (Leroy 2002, section 4.1).
use Rattle.std.specs.Prelude.{◌≡◌, ℕ, ⊤, false, true, Bool, ◌∷◌, length, map, Ok}
use Rattle.jc_base.specs.declared.ty.Ty.TheVariants.{Top}
use Rattle.jc_base.specs.World.{Linked}
use Rattle.jc_decode.specs.declared.insn.Placed.{Placed}
use Rattle.jc_control.specs.Control.{IsReached}
use Rattle.jc_control.specs.WellFormed.{HasInstruction}
use Rattle.jc_ops.specs.declared.operation.Callee.{Callee}
use Rattle.jc_ops.specs.declared.operation.Operation.TheVariants.{Call}
use Rattle.jc_rules.specs.Flow.{At, FrameBelow}
use Rattle.vm_store.specs.declared.cell.Cell.{Cell}
use Rattle.vm_store.specs.State.{State, Frame, IsRunning, top, other_frames, map_object}
use Rattle.vm_store.specs.Objects.{kinds}
use Rattle.vm_step.specs.declared.ending.Ending.TheVariants.{Plain, Faulted}
use Rattle.vm_step.specs.Raising.{Outcome, running, ended}
use Rattle.law_sound.specs.Frames.{types_of_frame}
use Rattle.law_alike.specs.Alike.{renamed_cell}
use Rattle.xf_homes.specs.Order.{register_sum}
use Rattle.xf_homes.specs.Source.{Source}
use Rattle.xf_homes.specs.Plan.{is_leader, operation}
use Rattle.law_homes.specs.Held.{HoldsLocals, HoldsFrame, Waits}
use Rattle.law_groups.specs.Laid.{IsInGroup, body_at, group_at, rename}

-- ---- frames

-- both frames are of the source's method, and the second has the registers of the homes
pub record AreOf (s : Source) (f g : Frame Cell) : Type 0 where
  pub source : f.method ≡ s.method.number
  pub target : g.method ≡ s.method.number
  pub count : length g.registers ≡ register_sum s.homes

-- at a leader the stack waits in homes, and elsewhere it is held
abbrev pub HeldOrWaits : Bool → Source → (ℕ → ℕ) → Frame Cell → Frame Cell → Type 0
HeldOrWaits true s place f g = Waits s f.place f g
HeldOrWaits false s place f g = HoldsFrame (renamed_cell (rename s place)) s f.place f g

-- g is at the first step of the group of the place of f, and holds f there
pub record IsAtGroup (s : Source) (place : ℕ → ℕ) (f g : Frame Cell) : Type 0 where
  pub of : AreOf s f g
  pub at : g.place ≡ place (group_at s f.place)
  pub holds : HeldOrWaits (is_leader s f.place) s place f g

-- g is at one of the steps of the group of the place of f, and holds its locals
pub record StandsInGroup (s : Source) (place : ℕ → ℕ) (f g : Frame Cell) : Type 0 where
  pub of : AreOf s f g
  pub instruction : Placed
  pub stands : HasInstruction s.method.code instruction
  pub there : instruction.place ≡ f.place
  pub step : ℕ
  pub inside : IsInGroup s instruction step
  pub at : g.place ≡ place step
  pub locals : HoldsLocals s f.place f g

-- g is at the call for which that of f stands, once the arguments are popped, and holds f
pub record IsUnderCall (s : Source) (place : ℕ → ℕ) (f g : Frame Cell) : Type 0 where
  pub within : StandsInGroup s place f g
  pub callee : Callee
  pub calls : operation s within.instruction ≡ Ok (Call callee)
  pub first : within.step ≡ body_at s f.place
  pub stack : g.stack ≡ map (renamed_cell (rename s place)) f.stack

-- ---- states

-- equal objects and static fields, and as many frames
pub record AreEqualBut (z t : State Cell) : Type 0 where
  pub frames : length t.frames ≡ length z.frames
  pub heap : t.heap ≡ z.heap
  pub statics : t.statics ≡ z.statics

-- the method on top is the source's, at a place that control reaches; the least types of its cells are below those of the typing there;
-- and no object and no static field has a cell that another place would change
pub record IsTypedAt (v : Linked) (s : Source) (z : State Cell) : Type 0 where
  pub runs : IsRunning z
  pub method : (top z).method ≡ s.method.number
  pub reached : IsReached s.method (top z).place
  pub below : At s.frames (top z).place (FrameBelow v.classes (types_of_frame v.classes Top (kinds z) (top z)))
  pub objects_stay : (e : ℕ → ℕ) → map (map_object (renamed_cell e)) z.heap ≡ z.heap
  pub statics_stay : (e : ℕ → ℕ) → map (renamed_cell e) z.statics ≡ z.statics

-- no fault, and where the source's method is on top afterwards, it is typed so
abbrev pub StaysTyped : Linked → Source → Outcome Cell → Type 0
StaysTyped v s (running z) = IsRunning z → (top z).method ≡ s.method.number → IsTypedAt v s z
StaysTyped v s (ended (Plain ending) z) = ⊤
StaysTyped v s (ended (Faulted fault) z) = ⊥

-- after a step of the same frame: those under it are as they were
pub record SameUnder (z y : State Cell) : Type 0 where
  pub frames : y.frames ≡ top y ∷ other_frames z.frames

-- after steps of the target's frame alone: nothing else has changed
pub record MovesTop (t u : State Cell) : Type 0 where
  pub frames : u.frames ≡ top u ∷ other_frames t.frames
  pub heap : u.heap ≡ t.heap
  pub statics : u.statics ≡ t.statics
