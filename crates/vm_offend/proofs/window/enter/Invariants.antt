use Rattle.std.proofs.Common.{◌≡◌, ◌-◌, ◌++◌, take, drop, replicate, length}
use Rattle.vm_offend.proofs.window.enter.Given as goal

abbrev pub invariant-registers : goal.invariant-registers
invariant-registers l = take l.x (drop 3 l.window) ≡ take l.x (l.args ++ replicate (l.x-end - length l.args) 0)
