-- A method that can be rewritten, with all that its rewriting goes by.
use Rattle.std.specs.Prelude.{◌≡◌, ◌≤◌, ℕ, ⊤, length, IfSome}
use Rattle.jc_base.specs.declared.ty.Ty.{Ty}
use Rattle.jc_base.specs.declared.ty.Ty.TheVariants.{Bottom, IntLow, Fresh, Top}
use Rattle.jc_base.specs.Order.{IsKnown}
use Rattle.jc_control.specs.Control.{IsLeader}
use Rattle.jc_control.specs.Flags.{Marks}
use Rattle.jc_control.specs.Method.{IsMethodOf}
use Rattle.jc_rules.specs.Flow.{FlowTyping, IsDerived}
use Rattle.xf_homes.specs.declared.home.Home.{Home}
use Rattle.xf_homes.specs.Home.{register_count}
use Rattle.xf_homes.specs.Laws.{HasRegister}
use Rattle.xf_homes.specs.Order.{AreHomes, register_sum}
use Rattle.xf_homes.specs.Source.{Source}
use Rattle.xf_emission.specs.Laws.{IsCode, HasFrames}

-- a method of its world, with a dataflow typing from Top whose frames are derived ones, each with a type for each register; with its
-- leaders, and with the homes by that typing, no more than a method may have registers
pub record IsPlanned (s : Source) : Type 0 where
  pub method : IsMethodOf s.world s.method
  pub code : IsCode s
  pub frames : HasFrames s
  pub typing : FlowTyping s.world s.method Top s.frames
  pub derived : (p : ℕ) → IfSome (s.frames p) (IsDerived s.world s.method Top p)
  pub registers : (p : ℕ) → IfSome (s.frames p) (λ f. length f.regs ≡ register_count s.method.rec)
  pub leaders : Marks (IsLeader s.method) s.leaders
  pub homes : AreHomes s.world s.method s.frames s.homes
  pub few : register_sum s.homes ≤ 255

-- a type of values that are kept in homes: of an int by its high half, and of no uninitialised object
abbrev pub IsKept : Ty → Type 0
IsKept Bottom = ⊥
IsKept IntLow = ⊥
IsKept (Fresh place class) = ⊥
IsKept Top = ⊥
IsKept ty = ⊤

-- a home of the method, which keeps values of a type of the world
pub record KeepsValues (s : Source) (h : Home) : Type 0 where
  pub kept : IsKept h.ty
  pub known : IsKnown s.world.classes h.ty
  pub has : HasRegister s.homes h
