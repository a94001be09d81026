-- The instructions of a method's code, by place.
use Rattle.std.specs.Prelude.{◌≡◌, ℕ, Bool, List, Option, Some, None, Ok, slice_index_or}
use Rattle.jc_decode.specs.declared.insn.Insn.{Insn}
use Rattle.jc_decode.specs.Decoding.{decoded}
use Rattle.jc_control.specs.Flags.{Marks}
use Rattle.jc_control.specs.WellFormed.{IsPlace}

-- by place whether an instruction begins there, and which
pub record Listed : Type 0 where
  pub begins : List Bool
  pub insns : List (Option Insn)

-- each instruction that is held is the one of the code at the place
abbrev pub AreDecoded : List ℕ → List (Option Insn) → Type 0
AreDecoded code insns = (place : ℕ) (i : Insn) → slice_index_or insns place None ≡ Some i → decoded code place ≡ Ok i

-- the places of the code's instructions are marked, and what is held is decoded
pub record IsListingOf (code : List ℕ) (l : Listed) : Type 0 where
  pub begins : Marks (IsPlace code) l.begins
  pub decodes : AreDecoded code l.insns
