-- Why the verifier on the card refuses a method, and what it has found there (Leroy 2002, section 3).
use Rattle.std.specs.Prelude.{◌≡◌, ◌≢◌, ◌⊎◌, ℕ, ◌+◌, [], length, IsTrue, ⊤}
use Rattle.jc_base.specs.World.{Linked}
use Rattle.jc_decode.specs.declared.insn.Placed.{Placed}
use Rattle.jc_decode.specs.Listing.{falls, jumps}
use Rattle.jc_ops.specs.declared.fault.RuleFault.{RuleFault}
use Rattle.jc_ops.specs.declared.fault.RuleFault.TheVariants.{Overflow}
use Rattle.jc_control.specs.Method.{Method}
use Rattle.jc_control.specs.WellFormed.{HasInstruction, IsWellFormed}
use Rattle.jc_control.specs.Flaw.{IsFirstFlaw}
use Rattle.jc_control.specs.declared.control.Flaw.{Flaw}
use Rattle.jc_control.specs.declared.control.Flaw.TheVariants as flaws
use Rattle.jc_rules.specs.declared.effect.Mode.TheVariants.{Card}
use Rattle.jc_rules.specs.declared.rule.Outcome.{Outcome}
use Rattle.jc_rules.specs.Demand.{Frame}
use Rattle.jc_rules.specs.Apply.{RuleApplies, RuleRefuses}
use Rattle.card_typing.specs.declared.fault.CardFault.{CardFault}
use Rattle.card_typing.specs.declared.fault.CardKind.{CardKind}
use Rattle.card_typing.specs.declared.fault.CardKind.TheVariants.{Code, Rule, StackAtTarget, StackAtBranch, HandlerEntered, BadTarget}
use Rattle.card_typing.specs.declared.fault.CardKind.TheVariants.{FallsOff, BadHandler}
use Rattle.card_typing.specs.Place.{IsTarget, IsEntry, IsFallenInto}
use Rattle.card_typing.specs.Met.{IsOpenTo, IsMetAfter}

-- What is wrong first at an instruction with a frame, and the frame that is kept: this one, or what the rule gives where
-- that is at fault. A handler begins at the place, which is fallen into or marked; or there is no room for the object
-- that it catches; a marked place is fallen into with cells on the stack; the rule refuses; a branch or switch leaves cells on
-- the stack; the last instruction falls through.
pub data IsWrong (w : Linked) (m : Method) (marked : ℕ → Type 0) (i : Placed) (before : Frame) : CardKind → Frame → Type 0 where
  wrong_entry : IsEntry m i.place → IsFallenInto m i.place ⊎ marked i.place → IsWrong w m marked i before HandlerEntered before
  wrong_room :
      IsEntry m i.place
      → ¬ (IsFallenInto m i.place ⊎ marked i.place)
      → m.rec.max_stack ≡ 0
      → IsWrong w m marked i before (Rule Overflow) before
  wrong_mark :
      ¬ (IsEntry m i.place)
      → marked i.place
      → IsFallenInto m i.place
      → before.stack ≢ []
      → IsWrong w m marked i before StackAtTarget before
  wrong_rule :
      (fault : RuleFault)
      → IsOpenTo m marked i.place before.stack
      → RuleRefuses w m.rec i.place i.insn before fault
      → IsWrong w m marked i before (Rule fault) before
  wrong_branch :
      (after : Frame) (o : Outcome)
      → IsOpenTo m marked i.place before.stack
      → RuleApplies w m.rec i.place i.insn Card before after o
      → IsTrue (jumps i.insn.op)
      → after.stack ≢ []
      → IsWrong w m marked i before StackAtBranch after
  wrong_end :
      (after : Frame) (o : Outcome)
      → IsOpenTo m marked i.place before.stack
      → RuleApplies w m.rec i.place i.insn Card before after o
      → (IsTrue (jumps i.insn.op) → after.stack ≡ [])
      → IsTrue (falls i.insn.op)
      → i.place + i.insn.len ≡ length m.code
      → IsWrong w m marked i before FallsOff after

-- the refusal of a method that is not well formed
abbrev pub fault_of : Flaw → CardFault
fault_of (flaws.Code place end) = record { place = place; depth = 0; kind = Code end }
fault_of (flaws.BadTarget place target) = record { place = place; depth = 0; kind = BadTarget target }
fault_of (flaws.BadHandler entry number) = record { place = entry; depth = 0; kind = BadHandler number }

-- the refusals that tell a flaw of the method
abbrev pub IsFlawKind : CardKind → Type 0
IsFlawKind (Code end) = ⊤
IsFlawKind (BadTarget target) = ⊤
IsFlawKind (BadHandler number) = ⊤
IsFlawKind _ = ⊥

-- the fault at the place, and the frame that is kept with it
abbrev pub fault_at : ℕ → CardKind → Frame → CardFault
fault_at place kind kept = record { place = place; depth = length kept.stack; kind = kind }

-- something is wrong with the state that is met after so many visits
pub data IsRefusedAfter (w : Linked) (m : Method) (marked : ℕ → Type 0) (visits : ℕ) : CardFault → Frame → Type 0 where
  refused_at :
      (i : Placed) (before kept : Frame) (kind : CardKind)
      → HasInstruction m.code i
      → IsMetAfter w m marked visits i.place before
      → IsWrong w m marked i before kind kept
      → IsRefusedAfter w m marked visits (fault_at i.place kind kept) kept

-- something is wrong with a met state
pub record IsRefusedState (w : Linked) (m : Method) (marked : ℕ → Type 0) (fault : CardFault) (kept : Frame) : Type 0 where
  pub visits : ℕ
  pub after : IsRefusedAfter w m marked visits fault kept

-- the reasons to refuse a method: its first flaw, or what is wrong with a met state of a well-formed one
pub data IsRefused (w : Linked) (m : Method) : CardFault → Frame → Type 0 where
  refused_flaw : (flaw : Flaw) (kept : Frame) → IsFirstFlaw m flaw → IsRefused w m (fault_of flaw) kept
  refused_state : (fault : CardFault) (kept : Frame) → IsWellFormed m → IsRefusedState w m (IsTarget m) fault kept
      → IsRefused w m fault kept
