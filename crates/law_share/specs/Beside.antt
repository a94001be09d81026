-- A state of a world, and one of another in which methods have other registers, frame beside frame: the relation of the simulation
-- (Leroy 2002, section 4).
use Rattle.std.specs.Prelude.{◌≡◌, ℕ, List, [], ◌∷◌, length, map, slice_get}
use Rattle.jc_base.specs.World.{Linked}
use Rattle.jc_decode.specs.declared.insn.Placed.{Placed}
use Rattle.jc_control.specs.Method.{Method, IsMethodOf}
use Rattle.jc_ops.specs.declared.operation.Callee.{Callee}
use Rattle.jc_ops.specs.declared.operation.Operation.TheVariants.{Call}
use Rattle.vm_store.specs.declared.cell.Cell.{Cell}
use Rattle.vm_store.specs.State.{Frame, State, top, other_frames, register_count}
use Rattle.law_sound.specs.Frames.{Typings}
use Rattle.law_sound.specs.Soundness.{AreTypings}
use Rattle.law_sound.specs.State.{IsTypedState}
use Rattle.law_alike.specs.Alike.{renamed_cell}
use Rattle.law_laid.specs.Apart.{IsSameBut}
use Rattle.law_share.specs.Live.{Operates, IsLiveAt}
use Rattle.law_share.specs.Renamed.{IsRenamed}

-- for the methods by their numbers: where they have their places in the other world, and what their registers become
pub record Renaming : Type 0 where
  pub place : ℕ → ℕ → ℕ
  pub reg : ℕ → ℕ → ℕ

-- the worlds differ in code alone, and each method with code has its counterpart
pub record AreRenamed (v w : Linked) (typings : Typings) (r : Renaming) : Type 0 where
  pub same : IsSameBut v w
  pub typed : AreTypings v typings
  pub methods : (m : Method) → IsMethodOf v m → IsRenamed v w m (r.place m.number) (r.reg m.number)

-- the stacks are equal but for places, and each register that is live is held under its new number
pub record FrameBeside (v w : Linked) (r : Renaming) (f g : Frame Cell) : Type 0 where
  pub source : Method
  pub is_source : IsMethodOf v source
  pub number : source.number ≡ f.method
  pub method : g.method ≡ f.method
  pub at : g.place ≡ r.place source.number f.place
  pub counted : length f.registers ≡ register_count v.methods source.number
  pub count : length g.registers ≡ register_count w.methods source.number
  pub stack : g.stack ≡ map (renamed_cell (r.place source.number)) f.stack
  pub held : (x : ℕ) → IsLiveAt v source x f.place → slice_get g.registers (r.reg source.number x) ≡ slice_get f.registers x

-- frames under a call, and their call
pub record WaitBeside (v w : Linked) (r : Renaming) (f g : Frame Cell) : Type 0 where
  pub beside : FrameBeside v w r f g
  pub instruction : Placed
  pub callee : Callee
  pub operates : Operates v beside.source instruction (Call callee)
  pub there : instruction.place ≡ f.place

-- the frames under the top ones, one by one
pub data AreUnder (v w : Linked) (r : Renaming) : List (Frame Cell) → List (Frame Cell) → Type 0 where
  no_frames : AreUnder v w r [] []
  more_frames :
      {f g : Frame Cell} {fs gs : List (Frame Cell)}
      → WaitBeside v w r f g
      → AreUnder v w r fs gs
      → AreUnder v w r (f ∷ fs) (g ∷ gs)

-- the states, of which the first is typed: equal objects and static fields, and frames beside frames
pub record AreBeside (v w : Linked) (typings : Typings) (r : Renaming) (z t : State Cell) : Type 0 where
  pub first : z.frames ≡ top z ∷ other_frames z.frames
  pub second : t.frames ≡ top t ∷ other_frames t.frames
  pub tops : FrameBeside v w r (top z) (top t)
  pub under : AreUnder v w r (other_frames z.frames) (other_frames t.frames)
  pub heap : t.heap ≡ z.heap
  pub statics : t.statics ≡ z.statics
  pub typed : IsTypedState v typings z
