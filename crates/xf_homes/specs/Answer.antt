-- What is answered for a method and its least typing.
use Rattle.std.specs.Prelude.{◌≡◌, ℕ, ◌<◌, min, ⊤, List, Option}
use Rattle.jc_base.specs.declared.ty.Ty.TheVariants.{Top}
use Rattle.jc_base.specs.World.{Linked}
use Rattle.jc_control.specs.Method.{Method}
use Rattle.jc_rules.specs.Demand.{Frame}
use Rattle.jc_rules.specs.Flow.{IsLeastTyping}
use Rattle.jc_rules.specs.Typing.{state_at}
use Rattle.jc_flow.specs.Infer.{AreReached, HaveRegisters}
use Rattle.xf_homes.specs.declared.home.Home.{Home}
use Rattle.xf_homes.specs.declared.finding.HomeEnd.{HomeEnd}
use Rattle.xf_homes.specs.declared.finding.HomeEnd.TheVariants.{Registers, Memory}
use Rattle.xf_homes.specs.Order.{AreHomes, register_sum}

-- the typing is the method's least one from Top, held for its reached places
pub record IsTypingOf (w : Linked) (m : Method) (typing : List (Option Frame)) : Type 0 where
  pub least : IsLeastTyping w m Top (state_at typing)
  pub reached : AreReached m typing
  pub registers : HaveRegisters m typing

-- the homes take this many registers, more than there are; a number stands at its type's end
pub record TakeTooManyRegisters (w : Linked) (m : Method) (frames : ℕ → Option Frame) (n : ℕ) : Type 0 where
  pub homes : List Home
  pub are : AreHomes w m frames homes
  pub more : 255 < register_sum homes
  pub count : n ≡ min (register_sum homes) 4294967295

abbrev pub TellsHomes : Linked → Method → (ℕ → Option Frame) → HomeEnd → Type 0
TellsHomes w m frames (Registers n) = TakeTooManyRegisters w m frames n
TellsHomes w m frames Memory = ⊤

-- the number of registers is told where it is too great
pub record IsGreat (homes : List Home) (n : ℕ) : Type 0 where
  pub more : 255 < register_sum homes
  pub count : n ≡ min (register_sum homes) 4294967295

abbrev pub IsCounted : List Home → HomeEnd → Type 0
IsCounted homes (Registers n) = IsGreat homes n
IsCounted homes Memory = ⊤
