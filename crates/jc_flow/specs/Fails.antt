-- Why a method has no dataflow typing (JCVM 2.2, section 7.5; Leroy 2002, section 2.3): what fails at the frame of a place.
use Rattle.std.specs.Prelude.{◌≡◌, ℕ, ◌+◌, ◌≤◌, length, All, Contains, IsTrue, ⊤}
use Rattle.jc_base.specs.declared.ty.Ty.TheVariants.{Top}
use Rattle.jc_base.specs.declared.record.Handler.{Handler}
use Rattle.jc_base.specs.World.{Linked}
use Rattle.jc_decode.specs.declared.insn.Placed.{Placed}
use Rattle.jc_decode.specs.Listing.{falls, jumps}
use Rattle.jc_ops.specs.declared.fault.RuleFault.{RuleFault}
use Rattle.jc_ops.specs.declared.fault.RuleFault.TheVariants.{Overflow, FreshKept, StackMerge}
use Rattle.jc_rules.specs.Demand.{Frame}
use Rattle.jc_rules.specs.Apply.{RuleRefuses}
use Rattle.jc_control.specs.Method.{Method}
use Rattle.jc_control.specs.WellFormed.{HasInstruction}
use Rattle.jc_control.specs.Control.{IsSuccessor, IsLeader, Covers}
use Rattle.jc_rules.specs.Flow.{IsNotFresh, FlowSteps, caught_frame, IsDerived}
use Rattle.jc_rules.specs.Typing.{Clashes}
use Rattle.jc_flow.specs.declared.inference.FlowEnd.{FlowEnd}
use Rattle.jc_flow.specs.declared.inference.FlowEnd.TheVariants.{NoTyping, Code, BadTarget, FallsOff, BadHandler, Memory}

-- what keeps a frame f at the place p from a typing: the rule refuses it; an uninitialised object is under the operands of a branch or
-- switch, or goes to a leader; the stack that the rule gives, or a handler's, does not merge with the frame of another way to the same
-- place; or a handler covers the place, and the method has no room for the caught object
pub data Fails (w : Linked) (m : Method) (p : ℕ) (f : Frame) : RuleFault → Type 0 where
  fails_rule :
      {fault : RuleFault} (i : Placed)
      → HasInstruction m.code i
      → i.place ≡ p
      → RuleRefuses w m.rec p i.insn f fault
      → Fails w m p f fault
  fails_jump :
      (i : Placed) (g : Frame)
      → HasInstruction m.code i
      → i.place ≡ p
      → FlowSteps w m i f g
      → IsTrue (jumps i.insn.op)
      → ¬ (All IsNotFresh g.stack)
      → Fails w m p f FreshKept
  fails_leader :
      (i : Placed) (g : Frame) (q : ℕ)
      → HasInstruction m.code i
      → i.place ≡ p
      → FlowSteps w m i f g
      → IsSuccessor m.code i q
      → IsLeader m q
      → ¬ (All IsNotFresh g.stack)
      → Fails w m p f FreshKept
  fails_merge :
      (i : Placed) (g other : Frame) (q : ℕ)
      → HasInstruction m.code i
      → i.place ≡ p
      → FlowSteps w m i f g
      → IsSuccessor m.code i q
      → IsDerived w m Top q other
      → Clashes w.classes other g
      → Fails w m p f StackMerge
  fails_caught :
      (h : Handler) (other : Frame)
      → Contains m.rec.handlers h
      → Covers h p
      → IsDerived w m Top h.entry other
      → Clashes w.classes other (caught_frame h f)
      → Fails w m p f StackMerge
  fails_handler : (h : Handler) → Contains m.rec.handlers h → Covers h p → m.rec.max_stack ≡ 0 → Fails w m p f Overflow

-- a derived frame at the place fails so
pub record FailsAt (w : Linked) (m : Method) (p : ℕ) (fault : RuleFault) : Type 0 where
  pub frame : Frame
  pub derived : IsDerived w m Top p frame
  pub fails : Fails w m p frame fault

-- a derived frame stands at the place; the rule of the instruction there gives a frame, with no uninitialised object under the operands of
-- a branch or switch; and after it the code ends
pub record FallsPast (w : Linked) (m : Method) (p : ℕ) : Type 0 where
  pub frame : Frame
  pub derived : IsDerived w m Top p frame
  pub instruction : Placed
  pub stands : HasInstruction m.code instruction
  pub at : instruction.place ≡ p
  pub after : Frame
  pub steps : FlowSteps w m instruction frame after
  pub ready : IsTrue (jumps instruction.insn.op) → All IsNotFresh after.stack
  pub falls_on : IsTrue (falls instruction.insn.op)
  pub past : length m.code ≤ instruction.place + instruction.insn.len

-- why the analysis of a well-formed method ends
abbrev pub IsFailure : Linked → Method → FlowEnd → Type 0
IsFailure w m (NoTyping p fault) = FailsAt w m p fault
IsFailure w m (FallsOff p) = FallsPast w m p
IsFailure w m Memory = ⊤
IsFailure w m (Code p end) = ⊥
IsFailure w m (BadTarget p target) = ⊥
IsFailure w m (BadHandler entry number) = ⊥
