use Rattle.std.proofs.Common.{◌≡◌, map, take}
use Rattle.vm_store.specs.Kind.{cell_kind}
use Rattle.vm_store.specs.Cells.{zero_cell}
use Rattle.vm_store.specs.Layout.{overwritten}
use Rattle.vm_store.proofs.fill.fill_own.Given as goal

abbrev pub invariant-types : goal.invariant-types
invariant-types g l = l.cells ≡ overwritten l.initial.cells l.from (map (λ ty. zero_cell g.C.CellForm.cells (cell_kind ty)) (take l.n l.types))
