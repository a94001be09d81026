-- Laws of flaws and of reached places.
use Rattle.std.specs.Prelude.{◌≡◌, ◌↔◌, ℕ, ◌+◌, ◌<◌, length, Ok}
use Rattle.jc_decode.specs.declared.insn.Placed.{Placed}
use Rattle.jc_decode.specs.Decoding.{decoded}
use Rattle.jc_control.specs.Method.{Method}
use Rattle.jc_control.specs.WellFormed.{HasInstruction, IsPlace, IsBoundary, IsWellFormed}
use Rattle.jc_control.specs.Control.{IsReached}
use Rattle.jc_control.specs.declared.control.Flaw.{Flaw}
use Rattle.jc_control.specs.Flaw.{Spot, IsFlaw, IsFirstFlaw}

-- a method is well formed exactly where it has no flaw
abbrev pub FlawsDecide : Type 0
FlawsDecide = (m : Method) → IsWellFormed m ↔ ((spot : Spot) (f : Flaw) → ¬ IsFlaw m spot f)

-- no two flaws of a method are its first
abbrev pub FirstFlawIsOne : Type 0
FirstFlawIsOne = (m : Method) (f g : Flaw) → IsFirstFlaw m f → IsFirstFlaw m g → f ≡ g

-- where the instructions of a method are found: one at its first place where it has code, one after each or the end, and at each place
-- that control reaches the one that is decoded there, or the end
pub record ArePlaced (m : Method) : Type 0 where
  pub first : 0 < length m.code → IsPlace m.code 0
  pub next : (i : Placed) → HasInstruction m.code i → IsBoundary m.code (i.place + i.insn.len)
  pub reached : (p : ℕ) → IsReached m p → IsBoundary m.code p
  pub decoded : (i : Placed) → IsReached m i.place → decoded m.code i.place ≡ Ok i.insn → HasInstruction m.code i

abbrev pub InstructionsArePlaced : Type 0
InstructionsArePlaced = (m : Method) → IsWellFormed m → ArePlaced m
