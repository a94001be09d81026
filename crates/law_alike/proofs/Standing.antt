-- A state with a frame on top runs, its frames are typed, and what stands at the place of code is the instruction there.
use Rattle.std.proofs.Common.{◌≡◌, ℕ, suc, List, ◌∷◌, subst, arith}
use Rattle.std.specs.Prelude.{Some}
use Rattle.jc_base.specs.World.{Linked}
use Rattle.jc_decode.specs.declared.insn.Placed.{Placed}
use Rattle.jc_decode.proofs.InstructionLists.{all-are-listed}
use Rattle.jc_control.specs.WellFormed.{HasInstruction}
use Rattle.vm_store.specs.declared.cell.Cell.{Cell}
use Rattle.vm_store.specs.Objects.{kinds}
use Rattle.vm_store.specs.State.{State, IsRunning, top, other_frames}
use Rattle.vm_step.specs.Methods.{instruction_at}
use Rattle.law_sound.specs.Frames.{Typings, AreTypedFrames}
use Rattle.law_sound.specs.State.{IsTypedState}
use Rattle.law_sound.proofs.Places.{instruction-there, place-instruction}

pub first-runs : (z : State Cell) → z.frames ≡ top z ∷ other_frames z.frames → IsRunning z
first-runs z first = grind (arith, suc)

pub frames-typed :
    (v : Linked) (typings : Typings) (z : State Cell) → z.frames ≡ top z ∷ other_frames z.frames → IsTypedState v typings z
    → AreTypedFrames v typings (kinds z) (top z ∷ other_frames z.frames)
frames-typed v typings z first typed = subst (AreTypedFrames v typings (kinds z)) first typed.frames

pub stands-at : (code : List ℕ) (place : ℕ) (i : Placed) → HasInstruction code i → i.place ≡ place → instruction_at code place ≡ Some i
stands-at code place i stands at = grind (arith, place-instruction code place (i, stands, at), all-are-listed code, instruction-there)
