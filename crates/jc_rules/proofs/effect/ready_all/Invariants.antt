use Rattle.std.proofs.Common.{◌≡◌, ◌++◌, map, take, drop}
use Rattle.jc_rules.specs.Effect.{ready}
use Rattle.jc_rules.proofs.effect.ready_all.Given as goal

abbrev pub invariant-loop-cell : goal.invariant-loop-cell
invariant-loop-cell l = l.cells ≡ map (ready l.place l.class) (take l.cell-index l.fn.cells) ++ drop l.cell-index l.fn.cells
