-- What the inference of a method's dataflow typing answers (JCVM 2.2, section 7.5; Leroy 2002, section 2.3).
use Rattle.std.specs.Prelude.{◌≡◌, ℕ, ◌+◌, ◌↔◌, List, length, Option, IsSome, IfSome, ⊤}
use Rattle.jc_base.specs.declared.ty.Ty.TheVariants.{Top}
use Rattle.jc_base.specs.World.{Linked}
use Rattle.jc_rules.specs.Demand.{Frame, AreKnown}
use Rattle.jc_control.specs.Method.{Method}
use Rattle.jc_control.specs.WellFormed.{IsWellFormed}
use Rattle.jc_control.specs.Control.{IsReached}
use Rattle.jc_rules.specs.Flow.{IsDerived, HasFlowTyping}
use Rattle.jc_rules.specs.Typing.{state_at}
use Rattle.jc_control.specs.Flaw.{IsFirstFlaw}
use Rattle.jc_control.specs.declared.control.Flaw.TheVariants as flaws
use Rattle.jc_control.specs.declared.control.ControlEnd.{ControlEnd}
use Rattle.jc_control.specs.declared.control.ControlEnd.TheVariants.{Flawed, Memory as NoControl}
use Rattle.jc_flow.specs.declared.inference.FlowEnd.{FlowEnd}
use Rattle.jc_flow.specs.declared.inference.FlowEnd.TheVariants.{NoTyping, Code, BadTarget, FallsOff, BadHandler, Memory}
use Rattle.jc_flow.specs.Fails.{FailsAt, FallsPast}

-- a place has a frame exactly where control reaches it
abbrev pub AreReached : Method → List (Option Frame) → Type 0
AreReached m typing = (place : ℕ) → IsSome (state_at typing place) ↔ IsReached m place

-- each frame has a type for each register of the method
abbrev pub HaveRegisters : Method → List (Option Frame) → Type 0
HaveRegisters m typing = (place : ℕ) → IfSome (state_at typing place) (λ f. length f.regs ≡ m.rec.nargs + m.rec.max_locals)

-- each frame is a derived one, and its types name classes
abbrev pub AreDerived : Linked → Method → List (Option Frame) → Type 0
AreDerived w m typing = (place : ℕ) → IfSome (state_at typing place) (IsDerived w m Top place)

abbrev pub HaveKnownTypes : Linked → List (Option Frame) → Type 0
HaveKnownTypes w typing = (place : ℕ) → IfSome (state_at typing place) (AreKnown w.classes)

-- why there is no typing: the method is not well formed, and this is its first flaw; or it is, and a derived frame fails so at the place
abbrev pub TellsEnd : Linked → Method → FlowEnd → Type 0
TellsEnd w m (NoTyping p fault) = IsWellFormed m × FailsAt w m p fault
TellsEnd w m (FallsOff p) = IsWellFormed m × FallsPast w m p
TellsEnd w m (Code p end) = IsFirstFlaw m (flaws.Code p end)
TellsEnd w m (BadTarget p target) = IsFirstFlaw m (flaws.BadTarget p target)
TellsEnd w m (BadHandler entry number) = IsFirstFlaw m (flaws.BadHandler entry number)
TellsEnd w m Memory = ⊤

-- but for one out of memory, no typing exists
abbrev pub LacksTyping : Linked → Method → FlowEnd → Type 0
LacksTyping w m Memory = ⊤
LacksTyping w m (NoTyping p fault) = ¬ (HasFlowTyping w m Top)
LacksTyping w m (FallsOff p) = ¬ (HasFlowTyping w m Top)
LacksTyping w m (Code p end) = ¬ (HasFlowTyping w m Top)
LacksTyping w m (BadTarget p target) = ¬ (HasFlowTyping w m Top)
LacksTyping w m (BadHandler entry number) = ¬ (HasFlowTyping w m Top)

-- why it is not known where control goes in the method
abbrev pub unformed_as : ControlEnd → FlowEnd
unformed_as (Flawed (flaws.Code p end)) = Code p end
unformed_as (Flawed (flaws.BadTarget p target)) = BadTarget p target
unformed_as (Flawed (flaws.BadHandler entry number)) = BadHandler entry number
unformed_as NoControl = Memory
