-- Whole stacks: an int is two cells, and neither half stands without the other (JCVM 2.2, sections 3.1 and 3.5.2).
use Rattle.std.specs.Prelude.{ℕ, List, reverse}
use Rattle.jc_base.specs.declared.ty.Ty.{Ty}
use Rattle.jc_base.specs.declared.record.MethodRec.{MethodRec}
use Rattle.jc_base.specs.Cell.{AreWhole}
use Rattle.jc_base.specs.World.{Linked}
use Rattle.jc_ops.specs.declared.operation.Operation.{Operation}
use Rattle.jc_ops.specs.Sound.{IsSound}
use Rattle.jc_rules.specs.declared.effect.Mode.{Mode}
use Rattle.jc_rules.specs.declared.rule.Outcome.{Outcome}
use Rattle.jc_rules.specs.Demand.{Frame}
use Rattle.jc_rules.specs.Apply.{OperationApplies}

-- the cells of a stack, from the bottom, are those of whole values
abbrev pub IsWholeStack : List Ty → Type 0
IsWholeStack stack = AreWhole (reverse stack)

-- an operation keeps stacks whole
abbrev pub OperationKeepsWhole : Linked → Type 0
OperationKeepsWhole w =
    (limit : ℕ) (m : MethodRec) (place : ℕ) (op : Operation) (mode : Mode) (before after : Frame) (o : Outcome)
    → IsSound w m place op
    → IsWholeStack before.stack
    → OperationApplies w limit op mode before after o
    → IsWholeStack after.stack
