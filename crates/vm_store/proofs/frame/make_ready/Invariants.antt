use Rattle.std.proofs.Common.{◌≡◌, ◌++◌, take, drop, map}
use Rattle.vm_store.specs.Cells.{made_ready}
use Rattle.vm_store.proofs.frame.make_ready.Given as goal

abbrev pub invariant-cells : goal.invariant-cells
invariant-cells l = l.stack ≡ map (made_ready l.place) (take l.cell-index l.initial.stack) ++ drop l.cell-index l.initial.stack
