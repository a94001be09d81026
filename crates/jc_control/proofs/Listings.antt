-- What is held for the places of a code, as one instruction after another is decoded.
use Rattle.std.proofs.Common.{arith}
use Rattle.std.proofs.Common.{◌≡◌, ◌<◌, ℕ, List, Option, Some, Ok, length}
use Rattle.std.proofs.Math.ListN.{get_or, set}
use Rattle.std.proofs.lemmas.Bool.{cases_eq}
use Rattle.std.proofs.lemmas.List.{get_or-set_same, get_or-set_other}
use Rattle.jc_decode.specs.declared.insn.Insn.{Insn}
use Rattle.jc_decode.specs.Decoding.{decoded}
use Rattle.jc_control.specs.Listing.{AreDecoded}

pub decoded-more : (code : List ℕ) (insns : List (Option Insn)) (place : ℕ) (i : Insn) → place < length insns
    → decoded code place ≡ Ok i → AreDecoded code insns → AreDecoded code (set insns place (Some i))
decoded-more code insns place i inside here before q j h = grind (arith, cases_eq, get_or, set, get_or-set_same, get_or-set_other)
