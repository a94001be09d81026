-- What is laid for each method of the last package.
use Rattle.std.specs.Prelude.{ℕ, Option}
use Rattle.jc_base.specs.World.{Linked}
use Rattle.jc_decode.specs.declared.symbols.Laid.{Laid}
use Rattle.law_shared_world.specs.SharedCode.{IsSharedElement}
use Rattle.xf_last.specs.Fits.{IsFittingAt}

-- the element of the method of this number
abbrev pub IsSharedAt : Linked → ℕ → Option Laid → Type 0
IsSharedAt w n laid = IsFittingAt (IsSharedElement w) w n laid
