-- Laws of card typings.
use Rattle.std.specs.Prelude.{◌≡◌, ℕ, ◌↔◌, List, [], All, true}
use Rattle.jc_base.specs.declared.ty.Ty.{Ty}
use Rattle.jc_base.specs.declared.ty.Ty.TheVariants.{Bottom}
use Rattle.jc_base.specs.World.{Linked}
use Rattle.jc_decode.specs.declared.insn.Insn.{Insn}
use Rattle.jc_decode.specs.Listing.{listing}
use Rattle.jc_ops.specs.declared.fault.RuleFault.{RuleFault}
use Rattle.jc_control.specs.Method.{Method, IsMethodOf}
use Rattle.jc_control.specs.WellFormed.{IsWellFormed}
use Rattle.jc_rules.specs.declared.effect.Mode.{Mode}
use Rattle.jc_rules.specs.declared.rule.Outcome.{Outcome}
use Rattle.jc_rules.specs.Demand.{Frame, AreKnown}
use Rattle.jc_rules.specs.Apply.{Applies, Refuses, RuleApplies, RuleRefuses}
use Rattle.jc_rules.specs.Flow.{CellsBelow, FrameBelow, IsNotFresh, start_frame, HasFlowTyping}
use Rattle.card_typing.specs.declared.fault.CardFault.{CardFault}
use Rattle.card_typing.specs.Typing.{frame_at, CardTypingOver, HasCardTyping, IsLeastOver}
use Rattle.card_typing.specs.Met.{Arrives, IsMetAfter, IsMet}
use Rattle.card_typing.specs.Refusal.{IsFlawKind, IsRefusedAfter, IsRefused}
use Rattle.card_typing.specs.Pass.{IsQuiet, IsPassCount}

-- where the rule applies to an instruction at a site of the world, or refuses it, the rule by the record of the site's method does
pub record RuleIsOfRecord (w : Linked) : Type 0 where
  pub applies :
      (m : Method) (place : ℕ) (i : Insn) (mode : Mode) (before after : Frame) (o : Outcome)
      → IsMethodOf w m
      → Applies w (record { method = m.number; place = place }) i mode before after o
      → RuleApplies w m.rec place i mode before after o
  pub refuses :
      (m : Method) (place : ℕ) (i : Insn) (before : Frame) (fault : RuleFault)
      → IsMethodOf w m
      → Refuses w (record { method = m.number; place = place }) i before fault
      → RuleRefuses w m.rec place i before fault

-- a method that the card accepts has a dataflow typing in which unset registers hold no value
abbrev pub CardIsFlow : Linked → Type 0
CardIsFlow w = (m : Method) → IsMethodOf w m → HasCardTyping w m → HasFlowTyping w m Bottom

-- each state that is met over a set of marked places is below every card typing over them
abbrev pub MetIsBelow : Linked → Method → (ℕ → Type 0) → Type 0
MetIsBelow w m marked =
    (regs : List Ty) (stacks : ℕ → List Ty) (place : ℕ) (met : Frame)
    → CardTypingOver w m marked regs stacks
    → IsMet w m marked place met
    → FrameBelow w.classes met (frame_at regs stacks place)

-- what holds of each met state: its types are of the world, no register holds an uninitialised object, and none has fallen
-- below what it starts as
pub record IsSoundState (w : Linked) (m : Method) (met : Frame) : Type 0 where
  pub known : AreKnown w.classes met
  pub ready : All IsNotFresh met.regs
  pub raised : CellsBelow w.classes (start_frame m.rec Bottom).regs met.regs

abbrev pub MetIsSound : Linked → Method → (ℕ → Type 0) → Type 0
MetIsSound w m marked = (place : ℕ) (met : Frame) → IsMet w m marked place met → IsSoundState w m met

-- after so many visits one state is met
abbrev pub MetIsOne : Linked → Method → (ℕ → Type 0) → Type 0
MetIsOne w m marked =
    (visits p q : ℕ) (met other : Frame)
    → IsMetAfter w m marked visits p met
    → IsMetAfter w m marked visits q other
    → (p ≡ q) × (met ≡ other)

-- and with one met state at most something is wrong
abbrev pub RefusedStateIsOne : Linked → Method → (ℕ → Type 0) → Type 0
RefusedStateIsOne w m marked =
    (visits others : ℕ) (fault other : CardFault) (kept held : Frame)
    → IsRefusedAfter w m marked visits fault kept
    → IsRefusedAfter w m marked others other held
    → (visits ≡ others) × (fault ≡ other) × (kept ≡ held)

-- a method has one number of passes
abbrev pub PassCountIsOne : Linked → Method → (ℕ → Type 0) → Type 0
PassCountIsOne w m marked = (passes others : ℕ) → IsPassCount w m marked passes → IsPassCount w m marked others → passes ≡ others

-- what a refusal tells denies every card typing
abbrev pub RefusalDenies : Linked → Type 0
RefusalDenies w = (m : Method) (fault : CardFault) (kept : Frame) → IsMethodOf w m → IsRefused w m fault kept → ¬ (HasCardTyping w m)

-- a method is refused in one way: no two refusals tell different faults, and where a state is at fault one frame is kept
abbrev pub RefusalIsOne : Linked → Type 0
RefusalIsOne w =
    (m : Method) (fault other : CardFault) (kept held : Frame)
    → IsMethodOf w m
    → IsRefused w m fault kept
    → IsRefused w m other held
    → (fault ≡ other) × (¬ (IsFlawKind fault.kind) → kept ≡ held)

-- a refusal tells a flaw exactly where the method is not well formed
abbrev pub FlawsAreTold : Linked → Type 0
FlawsAreTold w =
    (m : Method) (fault : CardFault) (kept : Frame) → IsRefused w m fault kept → IsFlawKind fault.kind ↔ ¬ (IsWellFormed m)

-- registers that are met at the start of a pass, which raises none of them, are those of the least card typing
abbrev pub QuietIsLeast : Linked → Method → (ℕ → Type 0) → Type 0
QuietIsLeast w m marked =
    (regs : List Ty)
    → IsWellFormed m
    → ((given : List Ty) → Arrives w m true [] 0 given → IsMet w m marked 0 (record { regs = regs; stack = given }))
    → IsQuiet w m marked regs true [] (listing m.code)
    → IsLeastOver w m marked regs
