use Rattle.std.proofs.Common.{◌≡◌, ◌++◌, pos, take, replicate}
use Rattle.cap_bare.proofs.frame.Frame.entered.Given as goal

abbrev pub invariant-loop-value : goal.invariant-loop-value
invariant-loop-value l = l.registers.items ≡ take l.value-index l.args

abbrev pub invariant-loop-local : goal.invariant-loop-local
invariant-loop-local l = l.registers.items ≡ l.args ++ replicate l._local (pos 0)
