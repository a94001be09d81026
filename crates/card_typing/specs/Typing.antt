-- Card typings of a method: what a verifier on the card accepts (Leroy 2002, section 3). Its requirement R1: the stack is
-- empty at every branch, once its operands are popped, and at every branch target. Its requirement R2: each register has
-- one type throughout the method.
use Rattle.std.specs.Prelude.{◌≡◌, ℕ, ℤ, ◌+◌, ◌<◌, ◌≤◌, List, [], ◌∷◌, length, All, IsTrue, false}
use Rattle.jc_base.specs.declared.ty.Ty.{Ty}
use Rattle.jc_base.specs.declared.ty.Ty.TheVariants.{Bottom, Class}
use Rattle.jc_base.specs.declared.record.Handler.{Handler}
use Rattle.jc_base.specs.declared.record.MethodRec.{MethodRec}
use Rattle.jc_base.specs.Order.{IsKnown}
use Rattle.jc_base.specs.World.{Linked}
use Rattle.jc_decode.specs.declared.insn.Placed.{Placed}
use Rattle.jc_decode.specs.Listing.{falls, jumps, targets}
use Rattle.jc_decode.specs.Places.{IsTargetAmong}
use Rattle.jc_control.specs.Method.{Method}
use Rattle.jc_control.specs.WellFormed.{HasInstruction, IsWellFormed}
use Rattle.jc_rules.specs.declared.effect.Mode.TheVariants.{Flow}
use Rattle.jc_rules.specs.declared.rule.Outcome.{Outcome}
use Rattle.jc_rules.specs.Demand.{Frame}
use Rattle.jc_rules.specs.Apply.{RuleApplies}
use Rattle.jc_rules.specs.Flow.{CellsBelow, IsNotFresh, start_frame}
use Rattle.card_typing.specs.Place.{IsTarget, IsEntryAmong, AreCaughtAt}

-- the registers with the stack before a place
abbrev pub frame_at : List Ty → (ℕ → List Ty) → ℕ → Frame
frame_at regs stacks place = record { regs = regs; stack = stacks place }

-- ---- code of any form

-- What a card typing reads of a method: its record, and of its code the place of its end, the instructions that stand there,
-- the place after each, the places to which each leads, and that it is well formed. So code in bytes and code whose jumps go
-- to labels have card typings alike.
pub record Subject : Type 1 where
  pub rec : MethodRec
  pub end : ℕ
  pub stands : Placed → Type 0
  pub after : Placed → ℕ
  pub leads : Placed → List ℤ
  pub formed : Type 0

-- where an instruction falls through, the code goes on, no handler begins there, and the stack there is the one that it gives
pub record GoesOnIn (s : Subject) (stacks : ℕ → List Ty) (i : Placed) (given : List Ty) : Type 0 where
  pub inside : s.after i < s.end
  pub no_entry : ¬ (IsEntryAmong s.rec.handlers (s.after i))
  pub next : stacks (s.after i) ≡ given

-- what an instruction, reached or not, asks of the registers and of the stacks: its rule applies, what it stores is below
-- the type of its register, and a branch or switch leaves the stack empty; the next place has the stack that it gives, or
-- the empty one where it doesn't fall through and no handler begins there
pub record IsTypedIn (w : Linked) (s : Subject) (regs : List Ty) (stacks : ℕ → List Ty) (i : Placed) : Type 0 where
  pub after : Frame
  pub applies : (o : Outcome) × RuleApplies w s.rec i.place i.insn Flow (frame_at regs stacks i.place) after o
  pub stored : CellsBelow w.classes after.regs regs
  pub branch : IsTrue (jumps i.insn.op) → after.stack ≡ []
  pub goes_on : IsTrue (falls i.insn.op) → GoesOnIn s stacks i after.stack
  pub ends : falls i.insn.op ≡ false → ¬ (IsEntryAmong s.rec.handlers (s.after i)) → stacks (s.after i) ≡ []

-- the stack at a place where a handler begins: an object of the class that is caught there, alone
pub record IsEnteredBy (w : Linked) (handlers : List Handler) (stacks : ℕ → List Ty) (q : ℕ) : Type 0 where
  pub class : ℕ
  pub catches : AreCaughtAt w.classes handlers q class
  pub stack : stacks q ≡ Class class ∷ []

-- one list of registers, and a stack before each place, for a well-formed method. The registers have types of the world,
-- and none is an uninitialised object; the receiver and the declared arguments are below them. The stack is empty at the
-- method's start and at each marked place; where a handler begins it is the caught object, and no mark; and no stack is deeper
-- than the method declares
pub record TypingOver (w : Linked) (s : Subject) (marked : ℕ → Type 0) (regs : List Ty) (stacks : ℕ → List Ty) : Type 0 where
  pub formed : s.formed
  pub types : All (IsKnown w.classes) regs
  pub ready : All IsNotFresh regs
  pub declared : CellsBelow w.classes (start_frame s.rec Bottom).regs regs
  pub start : ¬ (IsEntryAmong s.rec.handlers 0) × (stacks 0 ≡ [])
  pub entries : (q : ℕ) → IsEntryAmong s.rec.handlers q → IsEnteredBy w s.rec.handlers stacks q
  pub targets : (q : ℕ) → marked q → ¬ (IsEntryAmong s.rec.handlers q) × (stacks q ≡ [])
  pub room : (i : Placed) → s.stands i → length (stacks i.place) ≤ s.rec.max_stack
  pub typed : (i : Placed) → s.stands i → IsTypedIn w s regs stacks i

-- where the targets of the code are marked
abbrev pub TypingIn : Linked → Subject → List Ty → (ℕ → List Ty) → Type 0
TypingIn w s regs stacks = TypingOver w s (IsTargetAmong s.stands s.leads) regs stacks

-- ---- code in bytes

abbrev pub code_in_bytes : Method → Subject
code_in_bytes m = record {
  rec = m.rec;
  end = length m.code;
  stands = HasInstruction m.code;
  after = λ i. i.place + i.insn.len;
  leads = targets m.code;
  formed = IsWellFormed m;
}

abbrev pub GoesOn : Method → (ℕ → List Ty) → Placed → List Ty → Type 0
GoesOn m stacks i given = GoesOnIn (code_in_bytes m) stacks i given

abbrev pub IsTyped : Linked → Method → List Ty → (ℕ → List Ty) → Placed → Type 0
IsTyped w m regs stacks i = IsTypedIn w (code_in_bytes m) regs stacks i

abbrev pub IsEntered : Linked → Method → (ℕ → List Ty) → ℕ → Type 0
IsEntered w m stacks q = IsEnteredBy w m.rec.handlers stacks q

-- over any set of marked places
abbrev pub CardTypingOver : Linked → Method → (ℕ → Type 0) → List Ty → (ℕ → List Ty) → Type 0
CardTypingOver w m marked regs stacks = TypingOver w (code_in_bytes m) marked regs stacks

abbrev pub CardTyping : Linked → Method → List Ty → (ℕ → List Ty) → Type 0
CardTyping w m regs stacks = CardTypingOver w m (IsTarget m) regs stacks

-- a card typing exists
pub record HasCardTyping (w : Linked) (m : Method) : Type 0 where
  pub regs : List Ty
  pub stacks : ℕ → List Ty
  pub typing : CardTyping w m regs stacks

-- these are the registers of the least one: of a card typing over the marked places, and below those of every card typing
pub record IsLeastOver (w : Linked) (m : Method) (marked : ℕ → Type 0) (regs : List Ty) : Type 0 where
  pub stacks : ℕ → List Ty
  pub typing : CardTypingOver w m marked regs stacks
  pub least : (others : List Ty) (other_stacks : ℕ → List Ty) → CardTyping w m others other_stacks
      → CellsBelow w.classes regs others

abbrev pub IsLeastCardTyping : Linked → Method → List Ty → Type 0
IsLeastCardTyping w m regs = IsLeastOver w m (IsTarget m) regs
