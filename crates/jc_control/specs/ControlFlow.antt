-- The places of a method that control can reach, and those among them where it comes together.
use Rattle.std.specs.Prelude.{ℕ, List, Bool, ⊤}
use Rattle.jc_base.specs.declared.record.Handler.{Handler}
use Rattle.jc_control.specs.Method.{Method}
use Rattle.jc_control.specs.WellFormed.{IsWellFormed}
use Rattle.jc_control.specs.Control.{Covers, IsReached, IsLeader}
use Rattle.jc_control.specs.declared.control.ControlEnd.{ControlEnd}
use Rattle.jc_control.specs.declared.control.ControlEnd.TheVariants.{Flawed, Memory}
use Rattle.jc_control.specs.Flags.{IsFlagged, Marks}
use Rattle.jc_control.specs.Flaw.{IsFirstFlaw}
use Rattle.jc_control.specs.Listing.{Listed, IsListingOf}

-- by place whether it is reached, whether it is a leader, and which instruction begins there
pub record Marked : Type 0 where
  pub reached : List Bool
  pub leaders : List Bool
  pub listing : Listed

-- the method is well formed, and these are its reached places, its leaders and its instructions
pub record IsControlFlow (m : Method) (s : Marked) : Type 0 where
  pub formed : IsWellFormed m
  pub reached : Marks (IsReached m) s.reached
  pub leaders : Marks (IsLeader m) s.leaders
  pub listing : IsListingOf m.code s.listing

-- why it is not told where control goes: the first flaw of the method, or no memory
abbrev pub TellsFlaw : Method → ControlEnd → Type 0
TellsFlaw m (Flawed flaw) = IsFirstFlaw m flaw
TellsFlaw m Memory = ⊤

-- a marked place is in the handler's range
pub record IsMarkedLive (s : Marked) (h : Handler) : Type 0 where
  pub place : ℕ
  pub marked : IsFlagged s.reached place
  pub covers : Covers h place
