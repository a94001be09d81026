use Rattle.std.proofs.Common.{◌≡◌, ◌-◌, ◌++◌, [], take, replicate, length}
use Rattle.vm_store.specs.declared.cell.Cell.TheVariants.{Empty}
use Rattle.vm_store.proofs.frame.TaggedFrame.enter.Given as goal

abbrev pub invariant-loop-cell : goal.invariant-loop-cell
invariant-loop-cell l =
    (l.self-inside.method ≡ l.method) × (l.self-inside.place ≡ 0) × (l.self-inside.stack.items ≡ [])
    × (l.self-inside.registers.items ≡ take l.cell-index l.args)

abbrev pub invariant-loop-x : goal.invariant-loop-x
invariant-loop-x l =
    (l.self-inside.method ≡ l.method) × (l.self-inside.place ≡ 0) × (l.self-inside.stack.items ≡ [])
    × (l.self-inside.registers.items ≡ l.args ++ replicate (l._x - length l.args) Empty)
