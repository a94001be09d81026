-- Where the instructions that branch to a place may stand: the distance of a target is a signed byte.
use Rattle.std.specs.Prelude.{ℕ, ◌+◌, ◌≤◌, ◌≡◌, ◌⊎◌, ℤ, pos, negsuc, List, ◌++◌}
use Rattle.jc_decode.specs.declared.insn.Placed.{Placed}
use Rattle.jc_decode.specs.Listing.{end_from}
use Rattle.cap_bare.specs.Code.{instructions, instructions_from}

-- the instructions from this place on are the last of the code, and those before it end there
pub record IsSuffixAt (code : List ℕ) (at : ℕ) : Type 0 where
  pub before : List Placed
  pub whole : instructions code ≡ before ++ instructions_from code at
  pub ends : end_from 0 before ≡ at

-- an instruction from which on all that branch to a place stand: the first, or one that is 128 bytes before it
pub record IsTrailing (code : List ℕ) (from at : ℕ) : Type 0 where
  pub reached : IsSuffixAt code from
  pub far : (from ≡ 0) ⊎ (from + 128 ≤ at)

-- a place is not before another, if it lies in the code at all
abbrev pub IsFromOn : ℕ → ℤ → Type 0
IsFromOn from (pos place) = from ≤ place
IsFromOn from (negsuc n) = Unit {0}
