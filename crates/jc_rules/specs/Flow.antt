-- Dataflow typings of a method (Leroy 2002, section 2.3; JCVM 2.2, section 7.5; the data-flow analysis of the class file verifier):
-- registers and a stack at every reached place at once, that meet the rule of every instruction.
use Rattle.std.specs.Prelude.{ℕ, ◌+◌, ◌<◌, ◌≤◌, if◌then◌else◌, ⊤, List, [], ◌∷◌, ◌++◌, length, replicate}
use Rattle.std.specs.Prelude.{All, Contains, Option, IsSomeAnd, IsTrue}
use Rattle.jc_base.specs.declared.ty.Ty.{Ty}
use Rattle.jc_base.specs.declared.ty.Ty.TheVariants.{Class, Fresh, Top}
use Rattle.jc_base.specs.declared.record.Handler.{Handler}
use Rattle.jc_base.specs.declared.record.MethodRec.{MethodRec}
use Rattle.jc_base.specs.Class.{ClassTable}
use Rattle.jc_base.specs.Order.{Below, IsJoin}
use Rattle.jc_base.specs.World.{Linked}
use Rattle.jc_decode.specs.declared.insn.Placed.{Placed}
use Rattle.jc_decode.specs.Listing.{falls, jumps}
use Rattle.jc_control.specs.Method.{Method}
use Rattle.jc_control.specs.WellFormed.{HasInstruction, IsWellFormed}
use Rattle.jc_control.specs.Control.{IsSuccessor, Covers, IsReached, IsLeader}
use Rattle.jc_rules.specs.declared.effect.Mode.TheVariants.{Flow}
use Rattle.jc_rules.specs.declared.rule.Outcome.{Outcome}
use Rattle.jc_rules.specs.Demand.{Frame}
use Rattle.jc_rules.specs.Apply.{RuleApplies}

-- ---- frames

-- cell by cell; lists of different lengths do not compare
pub data CellsBelow (t : ClassTable) : List Ty → List Ty → Type 0 where
  no_cells : CellsBelow t [] []
  more_cells : {a b : Ty} {xs ys : List Ty} → Below t a b → CellsBelow t xs ys → CellsBelow t (a ∷ xs) (b ∷ ys)

pub record FrameBelow (t : ClassTable) (f g : Frame) : Type 0 where
  pub regs : CellsBelow t f.regs g.regs
  pub stack : CellsBelow t f.stack g.stack

-- the receiver, then the declared arguments, and a type in every other register; the stack is empty
abbrev pub receiver_of : MethodRec → List Ty
receiver_of r = if r.is_static then [] else Class r.class ∷ []

abbrev pub start_frame : MethodRec → Ty → Frame
start_frame r unset = record { regs = receiver_of r ++ r.sig.args ++ replicate r.max_locals unset; stack = [] }

-- the same registers with the caught object alone on the stack
abbrev pub caught_frame : Handler → Frame → Frame
caught_frame h f = record { regs = f.regs; stack = Class h.class ∷ [] }

abbrev pub IsNotFresh : Ty → Type 0
IsNotFresh (Fresh place class) = ⊥
IsNotFresh _ = ⊤

abbrev pub IsNotTop : Ty → Type 0
IsNotTop Top = ⊥
IsNotTop _ = ⊤

-- the frame at this place, where the assignment has one, is as said
abbrev pub At : (ℕ → Option Frame) → ℕ → (Frame → Type 0) → Type 0
At frames place P = IsSomeAnd (frames place) P

-- ---- flow typings

-- the rule of the instruction applies to the frame with this result, in the dataflow
abbrev pub FlowSteps : Linked → Method → Placed → Frame → Frame → Type 0
FlowSteps w m i before after = (o : Outcome) × RuleApplies w m.rec i.place i.insn Flow before after o

-- the rule applies, its result is below the frame at each successor, and under the operands of a
-- branch or switch no object is uninitialised
pub record IsFollowed (w : Linked) (m : Method) (frames : ℕ → Option Frame) (i : Placed) (f : Frame) : Type 0 where
  pub after : Frame
  pub steps : FlowSteps w m i f after
  pub below : (q : ℕ) → IsSuccessor m.code i q → At frames q (FrameBelow w.classes after)
  pub ready : IsTrue (jumps i.insn.op) → All IsNotFresh after.stack

-- a frame that may stand at a reached place
pub record IsFit (m : Method) (f : Frame) : Type 0 where
  pub room : length f.stack ≤ m.rec.max_stack
  pub no_top : All IsNotTop f.stack
  pub no_fresh : All IsNotFresh f.regs

-- registers and a stack at each reached place, such that: the start is below the first; the rule applies everywhere and leads on; no
-- reached place falls past the end; what a handler catches is below the frame at its entry; and no uninitialised object stands in a
-- register or at a leader
pub record FlowTyping (w : Linked) (m : Method) (unset : Ty) (frames : ℕ → Option Frame) : Type 0 where
  pub formed : IsWellFormed m
  pub start : At frames 0 (FrameBelow w.classes (start_frame m.rec unset))
  pub fit : (p : ℕ) → IsReached m p → At frames p (IsFit m)
  pub rules : (i : Placed) → HasInstruction m.code i → IsReached m i.place → At frames i.place (IsFollowed w m frames i)
  pub stays : (i : Placed) → HasInstruction m.code i → IsReached m i.place → IsTrue (falls i.insn.op)
      → i.place + i.insn.len < length m.code
  pub handlers :
      (p : ℕ) (h : Handler)
      → IsReached m p
      → Contains m.rec.handlers h
      → Covers h p
      → At frames p (λ f. At frames h.entry (FrameBelow w.classes (caught_frame h f)))
  pub leaders : (q : ℕ) → IsLeader m q → At frames q (λ f. All IsNotFresh f.stack)

-- a flow typing exists
pub record HasFlowTyping (w : Linked) (m : Method) (unset : Ty) : Type 0 where
  pub frames : ℕ → Option Frame
  pub typing : FlowTyping w m unset frames

-- the least one: below every other at each reached place
pub record IsLeastTyping (w : Linked) (m : Method) (unset : Ty) (frames : ℕ → Option Frame) : Type 0 where
  pub typing : FlowTyping w m unset frames
  pub least :
      (others : ℕ → Option Frame)
      → FlowTyping w m unset others
      → (p : ℕ)
      → IsReached m p
      → At frames p (λ f. At others p (FrameBelow w.classes f))

-- ---- derived states

-- the join of two lists, cell by cell
pub data CellsJoin (t : ClassTable) : List Ty → List Ty → List Ty → Type 0 where
  none_joined : CellsJoin t [] [] []
  more_joined : {a b j : Ty} {xs ys js : List Ty} → IsJoin t a b j → CellsJoin t xs ys js
      → CellsJoin t (a ∷ xs) (b ∷ ys) (j ∷ js)

-- two frames merge where their stacks have equal depth and no cell's join is Top
pub record Merges (t : ClassTable) (f g joined : Frame) : Type 0 where
  pub regs : CellsJoin t f.regs g.regs joined.regs
  pub stack : CellsJoin t f.stack g.stack joined.stack
  pub no_top : All IsNotTop joined.stack

-- the least set of places with frames that has the start, what handlers catch, what rules lead to, and the joins of its members that merge
pub data IsDerived (w : Linked) (m : Method) (unset : Ty) : ℕ → Frame → Type 0 where
  derived_start : IsDerived w m unset 0 (start_frame m.rec unset)
  derived_caught :
      {h : Handler} {p : ℕ} {f : Frame}
      → IsDerived w m unset p f
      → Contains m.rec.handlers h
      → Covers h p
      → IsDerived w m unset h.entry (caught_frame h f)
  derived_next :
      {i : Placed} {q : ℕ} {f g : Frame}
      → IsDerived w m unset i.place f
      → HasInstruction m.code i
      → FlowSteps w m i f g
      → IsSuccessor m.code i q
      → IsDerived w m unset q g
  derived_joined :
      {p : ℕ} {f g j : Frame}
      → IsDerived w m unset p f
      → IsDerived w m unset p g
      → Merges w.classes f g j
      → IsDerived w m unset p j
