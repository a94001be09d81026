-- Laws of card typings over a target index.
use Rattle.std.specs.Prelude.{◌≡◌, ◌≢◌, ℕ, ◌+◌, ◌*◌, ◌≤◌, ◌↔◌, List, length}
use Rattle.jc_base.specs.declared.ty.Ty.{Ty}
use Rattle.jc_base.specs.declared.ty.Ty.TheVariants.{Bottom}
use Rattle.jc_base.specs.World.{Linked}
use Rattle.jc_control.specs.ExactIndex.{IsExactIndex}
use Rattle.jc_control.specs.Method.{Method, IsMethodOf}
use Rattle.jc_rules.specs.Demand.{Frame}
use Rattle.jc_rules.specs.Flow.{start_frame}
use Rattle.card_typing.specs.declared.fault.CardFault.{CardFault}
use Rattle.card_typing.specs.Typing.{HasCardTyping}
use Rattle.card_typing.specs.Refusal.{IsRefused}
use Rattle.card_verify.specs.Counted.{instruction_count}
use Rattle.card_verify.specs.Bound.{AreCounted}
use Rattle.card_verify.specs.IndexTyping.{HasIndexTyping}
use Rattle.card_verify.specs.Refusal.{IsFormKind, IsRefusedOver}

-- a method with a card typing over any index has a card typing
abbrev pub IndexedIsTyped : Linked → Type 0
IndexedIsTyped w = (m : Method) (index : List ℕ) → HasIndexTyping w m index → HasCardTyping w m

-- over the exact index a method is accepted and refused as without one: there is a card typing over it exactly where there
-- is a card typing, and the same fault is told with the same frame
pub record AnswersAlike (w : Linked) (m : Method) (index : List ℕ) : Type 0 where
  pub accepts : HasIndexTyping w m index ↔ HasCardTyping w m
  pub refuses : (fault : CardFault) (kept : Frame) → IsRefusedOver w m index fault kept ↔ IsRefused w m fault kept

abbrev pub ExactAnswers : Linked → Type 0
ExactAnswers w = (m : Method) (index : List ℕ) → IsExactIndex m.code index → AnswersAlike w m index

-- a method whose registers have risen takes two passes at the least
abbrev pub RaisedTakesTwo : Linked → Type 0
RaisedTakesTwo w =
    (m : Method) (index : List ℕ) (regs : List Ty) (before after : ℕ)
    → IsMethodOf w m
    → AreCounted w m index regs before after
    → regs ≢ (start_frame m.rec Bottom).regs
    → before + (length index + 2 * instruction_count m) ≤ after

-- what a refusal over an index tells denies every card typing over it
abbrev pub RefusalDeniesOver : Linked → Type 0
RefusalDeniesOver w =
    (m : Method) (index : List ℕ) (fault : CardFault) (kept : Frame)
    → IsMethodOf w m
    → IsRefusedOver w m index fault kept
    → ¬ (HasIndexTyping w m index)

-- a method is refused over an index in one way: no two refusals tell different faults, and where a state is at fault one
-- frame is kept
abbrev pub RefusalIsOneOver : Linked → Type 0
RefusalIsOneOver w =
    (m : Method) (index : List ℕ) (fault other : CardFault) (kept held : Frame)
    → IsMethodOf w m
    → IsRefusedOver w m index fault kept
    → IsRefusedOver w m index other held
    → (fault ≡ other) × (¬ (IsFormKind fault.kind) → kept ≡ held)
