use Rattle.std.proofs.Common.{◌≡◌, [], ◌∷◌}
use Rattle.vm_store.specs.Objects.{repeated}
use Rattle.vm_store.specs.Layout.{overwritten}
use Rattle.vm_store.proofs.fill.fill.Given as goal

abbrev pub invariant-cells : goal.invariant-cells
invariant-cells g l = l.cells ≡ overwritten l.initial.cells l.from (repeated l.n (l.cell ∷ []))
