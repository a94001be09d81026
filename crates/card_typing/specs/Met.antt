-- The states that the verifier on the card meets as it walks the instructions in the order of the code, pass after pass
-- (Leroy 2002, section 3). Some places are marked: the targets of the method, or those that a target index lists.
use Rattle.std.specs.Prelude.{◌≡◌, ℕ, suc, ◌+◌, ◌<◌, Bool, true, false, List, [], ◌∷◌, length, IsTrue}
use Rattle.jc_base.specs.declared.ty.Ty.{Ty}
use Rattle.jc_base.specs.declared.ty.Ty.TheVariants.{Bottom, Class}
use Rattle.jc_base.specs.World.{Linked}
use Rattle.jc_decode.specs.declared.insn.Placed.{Placed}
use Rattle.jc_decode.specs.Listing.{falls, jumps}
use Rattle.jc_control.specs.Method.{Method}
use Rattle.jc_control.specs.WellFormed.{HasInstruction}
use Rattle.jc_rules.specs.declared.effect.Mode.TheVariants.{Card}
use Rattle.jc_rules.specs.declared.rule.Outcome.{Outcome}
use Rattle.jc_rules.specs.Demand.{Frame}
use Rattle.jc_rules.specs.Apply.{RuleApplies}
use Rattle.jc_rules.specs.Flow.{start_frame}
use Rattle.card_typing.specs.Place.{IsEntry, IsFallenInto, CatchesAt}

-- The stack before a place, where the instruction before it may fall through and gives a stack: that stack, or the empty
-- one where it doesn't; but where a handler begins, the object that is caught there, if the method has room for it.
pub data Arrives (w : Linked) (m : Method) (may_fall : Bool) (given : List Ty) (q : ℕ) : List Ty → Type 0 where
  arrives_falling : ¬ (IsEntry m q) → may_fall ≡ true → Arrives w m may_fall given q given
  arrives_empty : ¬ (IsEntry m q) → may_fall ≡ false → Arrives w m may_fall given q []
  arrives_caught : (c : ℕ) → IsEntry m q → ¬ (m.rec.max_stack ≡ 0) → CatchesAt w.classes m q c
      → Arrives w m may_fall given q (Class c ∷ [])
  arrives_full : IsEntry m q → m.rec.max_stack ≡ 0 → Arrives w m may_fall given q []

-- the place may have this stack: where a handler begins it is neither fallen into nor marked, and there is room for the
-- caught object; a marked place is fallen into with the empty stack alone
pub record IsOpenTo (m : Method) (marked : ℕ → Type 0) (q : ℕ) (stack : List Ty) : Type 0 where
  pub entry : IsEntry m q → ¬ (IsFallenInto m q) × ¬ (marked q)
  pub caught : IsEntry m q → ¬ (m.rec.max_stack ≡ 0)
  pub mark : marked q → IsFallenInto m q → stack ≡ []

-- nothing is wrong at an instruction with this frame: its place may have the stack, its rule applies on the card, a branch
-- or switch leaves the stack empty, and the code goes on where it falls through
pub record IsPassed (w : Linked) (m : Method) (marked : ℕ → Type 0) (i : Placed) (before after : Frame) (o : Outcome) : Type 0 where
  pub stands : HasInstruction m.code i
  pub suits : IsOpenTo m marked i.place before.stack
  pub applies : RuleApplies w m.rec i.place i.insn Card before after o
  pub branch : IsTrue (jumps i.insn.op) → after.stack ≡ []
  pub goes_on : IsTrue (falls i.insn.op) → i.place + i.insn.len < length m.code

-- where a walk goes on that has come to a place: there, and at the end of the code at place 0 again
pub data GoesTo (m : Method) (at : ℕ) : ℕ → Type 0 where
  goes_there : at < length m.code → GoesTo m at at
  goes_again : at ≡ length m.code → GoesTo m at 0

-- The state that is met after so many visits of an instruction: the method's start before the first, and after a member
-- at which nothing is wrong the next place, with the registers as the rule has raised them.
pub data IsMetAfter (w : Linked) (m : Method) (marked : ℕ → Type 0) : ℕ → ℕ → Frame → Type 0 where
  met_start :
      (stack : List Ty)
      → Arrives w m true [] 0 stack
      → IsMetAfter w m marked 0 0 (record { regs = (start_frame m.rec Bottom).regs; stack = stack })
  met_next :
      (visits : ℕ) (i : Placed) (q : ℕ) (before after : Frame) (o : Outcome) (stack : List Ty)
      → IsMetAfter w m marked visits i.place before
      → IsPassed w m marked i before after o
      → GoesTo m (i.place + i.insn.len) q
      → Arrives w m (falls i.insn.op) after.stack q stack
      → IsMetAfter w m marked (suc visits) q (record { regs = after.regs; stack = stack })

-- a place with a frame that is met
pub record IsMet (w : Linked) (m : Method) (marked : ℕ → Type 0) (q : ℕ) (met : Frame) : Type 0 where
  pub visits : ℕ
  pub after : IsMetAfter w m marked visits q met
