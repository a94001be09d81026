use Rattle.std.proofs.Common.{◌≡◌}
use Rattle.vm_store.specs.declared.cell.ObjectKind.TheVariants.{Bytes}
use Rattle.vm_store.specs.Value.{byte_of_word}
use Rattle.vm_run.proofs.Elements.{IsFilled}
use Rattle.vm_run.proofs.arrays.make_bytes.Given as goal

abbrev pub invariant-bytes : goal.invariant-bytes
invariant-bytes g l = record {
  filled : IsFilled
      g.S.Cell.CellForm.cells
      Bytes
      (λ b. g.S.Cell.CellForm.cells.short (byte_of_word b))
      l.bytes
      (g.S.Store.state l.fn.store)
      (g.S.Store.state l.store)
      l.i;
  well : g.S.Store.well l.store;
  fixed : g.S.Store.fixed l.store ≡ g.S.Store.fixed l.fn.store;
}
