-- Where the typing rule of an instruction applies, and with which frame; where it refuses, and with which fault
-- (Leroy 2002, section 2.2; JCVM 2.2, section 7.5).
use Rattle.std.specs.Prelude.{◌≡◌, ℕ, ◌+◌, ◌<◌, ◌≤◌, List, length, Some, Result, Ok, Err, slice_get}
use Rattle.jc_base.specs.declared.ty.Ty.{Ty}
use Rattle.jc_base.specs.declared.record.MethodRec.{MethodRec}
use Rattle.jc_base.specs.World.{Linked}
use Rattle.jc_decode.specs.declared.insn.Insn.{Insn}
use Rattle.jc_ops.specs.declared.fault.RuleFault.{RuleFault}
use Rattle.jc_ops.specs.declared.fault.RuleFault.TheVariants.{Overflow}
use Rattle.jc_ops.specs.declared.operation.Operation.{Operation}
use Rattle.jc_ops.specs.declared.operation.Site.{Site}
use Rattle.jc_ops.specs.Resolve.{Resolves}
use Rattle.jc_rules.specs.declared.effect.Effect.{Effect}
use Rattle.jc_rules.specs.declared.effect.Mode.{Mode}
use Rattle.jc_rules.specs.declared.rule.Outcome.{Outcome}
use Rattle.jc_rules.specs.Stack.{cells}
use Rattle.jc_rules.specs.Effect.{changed, StoresInRegisters, depth_after, raises_register}
use Rattle.jc_rules.specs.Demand.{Frame, SatisfiesAll, IsFirstUnmet}
use Rattle.jc_ops.specs.Next.{falls_from, ends_at}
use Rattle.jc_rules.specs.Rule.{demands, effect, wrote}

-- the frame that registers, a slice and a depth hold
abbrev pub frame_of : List Ty → List Ty → ℕ → Frame
frame_of regs slice depth = record { regs = regs; stack = cells slice depth }

-- registers and a slice of the lengths that the method declares
pub record HasDeclaredLengths (m : MethodRec) (regs slice : List Ty) (depth : ℕ) : Type 0 where
  pub registers : length regs ≡ m.nargs + m.max_locals
  pub cells : length slice ≡ m.max_stack
  pub within : depth ≤ m.max_stack

-- ---- an operation

-- the operation takes the frame before to the frame after, on a stack of so many cells at most: what it asks is met,
-- and what it gives has room
pub record OperationApplies (w : Linked) (limit : ℕ) (op : Operation) (mode : Mode) (before after : Frame) (o : Outcome) : Type 0 where
  pub asked : SatisfiesAll w.classes before (demands w op)
  pub regs : StoresInRegisters w.classes mode (effect w op before).store before.regs after.regs
  pub stack : after.stack ≡ changed (effect w op before).change before.stack
  pub room : length after.stack ≤ limit
  pub falls : o.falls ≡ falls_from op
  pub ends : o.ends ≡ ends_at op
  pub depth : o.depth ≡ length after.stack
  pub wrote_is : o.wrote ≡ wrote (effect w op before).store.register (effect w op before).store.cells
  pub rose_is : o.rose ≡ raises_register w.classes mode (effect w op before).store before.regs

-- the operation refuses the frame with its first fault: of what it asks in order, then of the room
pub data OperationRefuses (w : Linked) (limit : ℕ) (op : Operation) (before : Frame) : RuleFault → Type 0 where
  unmet : {fault : RuleFault} → IsFirstUnmet w.classes before (demands w op) fault → OperationRefuses w limit op before fault
  full :
      SatisfiesAll w.classes before (demands w op)
      → limit < length (changed (effect w op before).change before.stack)
      → OperationRefuses w limit op before Overflow

-- ---- an instruction, by the record of its method

-- the instruction i at a place of a method's code has an operation, which applies
pub record RuleApplies (w : Linked) (m : MethodRec) (place : ℕ) (i : Insn) (mode : Mode) (before after : Frame) (o : Outcome) : Type 0
  where
    pub operation : Operation
    pub resolves : Resolves w m place i (Ok operation)
    pub does : OperationApplies w m.max_stack operation mode before after o

-- it has no operation, or the operation refuses
pub data RuleRefuses (w : Linked) (m : MethodRec) (place : ℕ) (i : Insn) (before : Frame) : RuleFault → Type 0 where
  unresolved : {fault : RuleFault} → Resolves w m place i (Err fault) → RuleRefuses w m place i before fault
  refused_by :
      {op : Operation} {fault : RuleFault}
      → Resolves w m place i (Ok op)
      → OperationRefuses w m.max_stack op before fault
      → RuleRefuses w m place i before fault

-- ---- an instruction at a site of the world

-- the instruction i at the site takes the frame before to the frame after
pub record Applies (w : Linked) (site : Site) (i : Insn) (mode : Mode) (before after : Frame) (o : Outcome) : Type 0 where
  pub method : MethodRec
  pub is_method : slice_get w.methods site.method ≡ Some method
  pub rule : RuleApplies w method site.place i mode before after o

-- the instruction i at the site refuses the frame with its first fault: of what it names, then of what it asks in order, then of the room
pub record Refuses (w : Linked) (site : Site) (i : Insn) (before : Frame) (fault : RuleFault) : Type 0 where
  pub method : MethodRec
  pub is_method : slice_get w.methods site.method ≡ Some method
  pub rule : RuleRefuses w method site.place i before fault

-- ---- a plan

-- what is planned before anything changes
pub record IsPlan (w : Linked) (limit : ℕ) (op : Operation) (before : Frame) (e : Effect) : Type 0 where
  pub asked : SatisfiesAll w.classes before (demands w op)
  pub effect_is : e ≡ effect w op before
  pub room : depth_after e.change (length before.stack) ≤ limit

-- what is planned, or why nothing is
abbrev pub PlansEffect : Linked → ℕ → Operation → Frame → Result Effect RuleFault → Type 0
PlansEffect w limit op before (Ok e) = IsPlan w limit op before e
PlansEffect w limit op before (Err fault) = OperationRefuses w limit op before fault
