-- A method that is rewritten, with what its rewriting rests on.
use Rattle.std.specs.Prelude.{ℕ, Bool, List, Option}
use Rattle.jc_base.specs.World.{Linked}
use Rattle.jc_control.specs.Method.{Method}
use Rattle.jc_rules.specs.Demand.{Frame}
use Rattle.xf_homes.specs.declared.home.Home.{Home}

pub record Source : Type 0 where
  pub world : Linked
  pub method : Method
  -- its least typing
  pub frames : ℕ → Option Frame
  -- by place whether control comes together there
  pub leaders : List Bool
  -- in the order of their registers
  pub homes : List Home
