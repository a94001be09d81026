-- The law of rewritten methods: their code has a card typing.
use Rattle.std.specs.Prelude.{◌≡◌, ◌≤◌, ℕ, IfSome}
use Rattle.jc_base.specs.declared.ty.Ty.TheVariants.{Top}
use Rattle.jc_base.specs.World.{Linked}
use Rattle.jc_control.specs.Control.{IsLeader}
use Rattle.jc_control.specs.Flags.{Marks}
use Rattle.jc_control.specs.Method.{IsMethodOf}
use Rattle.jc_rules.specs.Flow.{FlowTyping, IsDerived}
use Rattle.xf_homes.specs.Order.{AreHomes, register_sum}
use Rattle.xf_homes.specs.Source.{Source}
use Rattle.xf_emission.specs.Emission.{rewritten}
use Rattle.xf_emission.specs.Laws.{IsCode, HasFrames}
use Rattle.law_rewritten_typing.specs.Typed.{HasTypingByHomes}

-- a method of the world with a dataflow typing from Top, whose frames are derived ones, and with the homes by it, no more than a method
-- may have: the code that stands for it has a card typing, in which each home's registers have the home's type
abbrev pub RewrittenIsTyped : Linked → Type 0
RewrittenIsTyped w =
    (s : Source)
    → s.world ≡ w
    → IsCode s
    → HasFrames s
    → IsMethodOf s.world s.method
    → FlowTyping s.world s.method Top s.frames
    → ((p : ℕ) → IfSome (s.frames p) (IsDerived s.world s.method Top p))
    → Marks (IsLeader s.method) s.leaders
    → AreHomes s.world s.method s.frames s.homes
    → register_sum s.homes ≤ 255
    → HasTypingByHomes s.world s.method s.homes (rewritten s)
