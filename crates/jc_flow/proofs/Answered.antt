-- What is answered for a method of the world.
use Rattle.std.proofs.Common.{arith}
use Rattle.std.proofs.Common.{◌≡◌, ℕ, ◌<◌, List, length, Option, IsSomeAnd, slice_get}
use Rattle.std.proofs.lemmas.Option.{slice_get_within}
use Rattle.jc_base.specs.declared.ty.Ty.TheVariants.{Top, Bottom}
use Rattle.jc_base.specs.World.{Linked}
use Rattle.jc_rules.specs.FlowLaws.{AreRules, TopIsBottom}
use Rattle.jc_control.specs.Method.{Method, IsMethodOf}
use Rattle.jc_rules.specs.Demand.{Frame}
use Rattle.jc_rules.specs.Flow.{HasFlowTyping, IsLeastTyping}
use Rattle.jc_control.specs.declared.control.Flaw.{Flaw}
use Rattle.jc_control.specs.declared.control.Flaw.TheVariants as flaws
use Rattle.jc_control.specs.declared.control.ControlEnd.{ControlEnd}
use Rattle.jc_control.specs.Flaw.{IsFirstFlaw}
use Rattle.jc_control.specs.ControlFlow.{TellsFlaw}
use Rattle.jc_control.specs.Laws.{FlawsDecide}
use Rattle.jc_flow.proofs.Derived.{some_to, some_map}
use Rattle.jc_flow.specs.declared.inference.FlowEnd.{FlowEnd}
use Rattle.jc_flow.specs.Fails.{IsFailure}
use Rattle.jc_flow.specs.Infer.{LacksTyping, unformed_as}
use Rattle.jc_flow.proofs.Never.{none-where-fails, none-where-falls}

pub number-below : {X : Type 0} (P : X → Type 0) (xs : List X) (n : ℕ) → IsSomeAnd (slice_get xs n) P → n < length xs
number-below P xs n h = some_to P (n < length xs) (slice_get xs n) (λ x e p. slice_get_within xs n x e) h

flaw-none : FlawsDecide → (w : Linked) (m : Method) (f : Flaw) → IsFirstFlaw m f → ¬ (HasFlowTyping w m Top)
flaw-none decide w m f first has = (decide m).0 has.typing.formed first.spot f first.flaw

unformed-none : FlawsDecide → (w : Linked) (m : Method) (end : ControlEnd) → TellsFlaw m end → LacksTyping w m (unformed_as end)
unformed-none decide w m x h = grind (arith, flaw-none)

pub none-unformed : FlawsDecide → (w : Linked) (o : Option Method) (end : ControlEnd) (r : FlowEnd) → r ≡ unformed_as end
    → IsSomeAnd o (λ m. TellsFlaw m end) → IsSomeAnd o (λ m. LacksTyping w m r)
none-unformed decide w o end r e h = grind (arith, some_map, unformed-none)

pub none-failed : (w : Linked) → AreRules w → (m : Method) → IsMethodOf w m → (end : FlowEnd) → IsFailure w m end → LacksTyping w m end
none-failed w is m mo x h = grind (arith, none-where-fails, none-where-falls)

-- a least typing is one whose unset registers hold no value
pub unset-of : (w : Linked) → TopIsBottom w → (m : Method) (frames : ℕ → Option Frame) → IsLeastTyping w m Top frames → HasFlowTyping w m Bottom
unset-of w unset m frames least = record { frames = frames; typing = unset m frames least.typing }
