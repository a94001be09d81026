-- The law over steps in other code.
use Rattle.std.specs.Prelude.{◌≡◌, ℕ, map}
use Rattle.jc_base.specs.World.{Linked}
use Rattle.jc_decode.specs.declared.insn.Placed.{Placed}
use Rattle.jc_ops.specs.declared.operation.Operation.{Operation}
use Rattle.vm_store.specs.declared.cell.Cell.{Cell}
use Rattle.vm_store.specs.Cells.{tagged}
use Rattle.vm_store.specs.State.{State, map_object}
use Rattle.vm_step.specs.Raising.{Outcome}
use Rattle.vm_step.specs.Step.{Steps}
use Rattle.law_sound.specs.Frames.{Typings}
use Rattle.law_sound.specs.State.{IsTypedState}
use Rattle.law_erasure.specs.Erasure.{IsNoFault}
use Rattle.law_laid.specs.Apart.{IsSameBut}
use Rattle.law_alike.specs.Alike.{IsOneToOne, renamed_cell}
use Rattle.law_alike.specs.Running.{Executes, RunAlike, ComeAlike}

-- in a world that differs in the code of methods alone, a frame that runs an instruction alike to that of a frame in the other
-- comes to the
-- same, wherever the step of that one is no fault
abbrev pub StepsAreAlike : Linked → Type 0
StepsAreAlike v =
    (w : Linked) (place : ℕ → ℕ) (s t : State Cell) (i j : Placed) (a b : Operation) (o : Outcome Cell)
    → IsSameBut v w
    → IsOneToOne place
    → Executes v s i a
    → Executes w t j b
    → RunAlike (renamed_cell place) place v w s t i j a b
    → Steps tagged v s o
    → IsNoFault o
    → (p : Outcome Cell) × Steps tagged w t p × ComeAlike tagged (renamed_cell place) v w s t i j a b o p

-- a typed state keeps no uninitialised object in objects and static fields, so no map of places changes their cells
abbrev pub TypedStatesStay : Linked → Type 0
TypedStatesStay w =
    (typings : Typings) (place : ℕ → ℕ) (s : State Cell)
    → IsTypedState w typings s
    → (map (map_object (renamed_cell place)) s.heap ≡ s.heap) × (map (renamed_cell place) s.statics ≡ s.statics)
