-- The room that an operation takes on the operand stack: two cells, or those that it copies.
use Rattle.std.proofs.Common.{ℕ, ◌+◌, ◌≤◌, List, length, arith}
use Rattle.std.specs.Prelude.{max, Option}
use Rattle.jc_base.specs.declared.ty.Ty.{Ty}
use Rattle.jc_base.specs.declared.record.MethodRec.{MethodRec}
use Rattle.jc_base.specs.World.{Linked}
use Rattle.jc_ops.specs.declared.operation.Want.{Want}
use Rattle.jc_ops.specs.declared.operation.Move.TheVariants as moves
use Rattle.jc_ops.specs.declared.operation.Operation.{Operation}
use Rattle.jc_ops.specs.declared.operation.Operation.TheVariants as ops
use Rattle.jc_ops.specs.Sound.{IsSound}
use Rattle.jc_rules.specs.declared.effect.Cells.{Cells}
use Rattle.jc_rules.specs.Demand.{Frame}
use Rattle.jc_rules.specs.Effect.{in_stack_order}
use Rattle.jc_rules.specs.Footprint.{footprint, cells_given}
use Rattle.jc_rules.specs.Rule.{ready_with, call_change}

-- how many cells an operation copies
abbrev copies : Operation → ℕ
copies (ops.Move (moves.CopyUnder copied under)) = copied
copies _ = 0

given-cells : (cells : Cells) → length (in_stack_order cells) ≤ 2
given-cells cells = grind (arith)

ready-given : (taken : ℕ) (cells : Cells) (ty : Ty) (want : Want) → cells_given (ready_with taken cells ty want) ≤ 2
ready-given taken cells x x2 = grind (arith, given-cells)

call-given : (args : List Ty) (cells : Cells) (receiver : Option Want) (f : Frame) → cells_given (call_change args cells receiver f) ≤ 2
call-given args cells x f = grind (arith, given-cells, ready-given, length)

-- two cells at most, or those that it copies
gives-few : (w : Linked) (op : Operation) → (footprint w op).given ≤ max (copies op) 2 + (footprint w op).taken
gives-few w op = grind (arith, given-cells, call-given)

copies-few : (w : Linked) (m : MethodRec) (place : ℕ) (op : Operation) → IsSound w m place op → copies op ≤ 255
copies-few w m place op h = grind (arith)

-- on a stack of 255 cells each operation has room in 510
pub room-for : (w : Linked) (m : MethodRec) (place : ℕ) (op : Operation) (depth : ℕ) → IsSound w m place op → depth ≤ 255
    → depth + (footprint w op).given ≤ 510 + (footprint w op).taken
room-for w m place op depth sound few = omega (arith, gives-few w op, copies-few w m place op sound)
