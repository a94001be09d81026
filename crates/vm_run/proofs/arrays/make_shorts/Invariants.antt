use Rattle.std.proofs.Common.{◌≡◌}
use Rattle.vm_arithmetic.specs.Arithmetic.{short_of_word}
use Rattle.vm_run.proofs.Elements.{IsFilled}
use Rattle.vm_run.proofs.arrays.make_shorts.Given as goal

abbrev pub invariant-words : goal.invariant-words
invariant-words g l = record {
  filled : IsFilled
      g.S.Cell.CellForm.cells
      l.fn.kind
      (λ w. g.S.Cell.CellForm.cells.short (short_of_word w))
      l.words
      (g.S.Store.state l.fn.store)
      (g.S.Store.state l.store)
      l.i;
  well : g.S.Store.well l.store;
  fixed : g.S.Store.fixed l.store ≡ g.S.Store.fixed l.fn.store;
}
