-- A state of a world, and one of another in which some methods are rewritten, frame beside frame: the relation of the simulation
-- (Leroy 2002, section 4).
use Rattle.std.specs.Prelude.{◌≡◌, ℕ, List, [], ◌∷◌}
use Rattle.jc_base.specs.World.{Linked}
use Rattle.jc_control.specs.Control.{IsReached}
use Rattle.vm_store.specs.declared.cell.Cell.{Cell}
use Rattle.vm_store.specs.State.{Frame, State, top, other_frames}
use Rattle.vm_step.specs.Raising.{Outcome}
use Rattle.law_sound.specs.Frames.{Typings}
use Rattle.law_sound.specs.State.{IsTypedState}
use Rattle.law_alike.specs.Simulation.{AreBoth}
use Rattle.xf_homes.specs.Source.{Source}
use Rattle.law_groups.specs.Beside.{IsAtGroup, IsUnderCall}
use Rattle.law_transform.specs.Counterparts.{IsSameMethod, IsRewrittenIn}

-- the frames on top: that of a kept method is the same, that of a rewritten one is at the group of its place
pub data AreTop (v w : Linked) (typings : Typings) : Frame Cell → Frame Cell → Type 0 where
  top_kept : {f : Frame Cell} → IsSameMethod v w f.method → AreTop v w typings f f
  top_rewritten :
      {f g : Frame Cell} (s : Source) (place : ℕ → ℕ)
      → IsRewrittenIn v w typings f.method s place
      → IsAtGroup s place f g
      → AreTop v w typings f g

-- frames that wait at a call
pub data WaitBeside (v w : Linked) (typings : Typings) : Frame Cell → Frame Cell → Type 0 where
  wait_kept : {f : Frame Cell} → IsSameMethod v w f.method → WaitBeside v w typings f f
  wait_rewritten :
      {f g : Frame Cell} (s : Source) (place : ℕ → ℕ)
      → IsRewrittenIn v w typings f.method s place
      → IsReached s.method f.place
      → IsUnderCall s place f g
      → WaitBeside v w typings f g

-- the frames under the top ones, one by one
pub data AreUnder (v w : Linked) (typings : Typings) : List (Frame Cell) → List (Frame Cell) → Type 0 where
  no_frames : AreUnder v w typings [] []
  more_frames :
      {f g : Frame Cell} {fs gs : List (Frame Cell)}
      → WaitBeside v w typings f g
      → AreUnder v w typings fs gs
      → AreUnder v w typings (f ∷ fs) (g ∷ gs)

-- the states, of which the first is typed: equal objects and static fields, and frames beside frames
pub record AreBeside (v w : Linked) (typings : Typings) (z t : State Cell) : Type 0 where
  pub first : z.frames ≡ top z ∷ other_frames z.frames
  pub second : t.frames ≡ top t ∷ other_frames t.frames
  pub tops : AreTop v w typings (top z) (top t)
  pub under : AreUnder v w typings (other_frames z.frames) (other_frames t.frames)
  pub heap : t.heap ≡ z.heap
  pub statics : t.statics ≡ z.statics
  pub typed : IsTypedState v typings z

-- what they come to: such states again, or the same ending with equal objects and static fields
abbrev pub OutcomesBeside : Linked → Linked → Typings → Outcome Cell → Outcome Cell → Type 0
OutcomesBeside v w typings = AreBoth (AreBeside v w typings)
