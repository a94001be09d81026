use Rattle.std.proofs.Common.{◌≡◌, ◌+◌, ◌≤◌, length, ap, ◌∙◌, subst, arith}
use Rattle.jc_base.specs.declared.ty.Kind.{Kind}
use Rattle.jc_base.specs.Cell.{width}
use Rattle.vm_store.specs.Objects.{object_cells}
use Rattle.vm_store.proofs.TypedHeaps.{cells-kept}
use Rattle.vm_store.proofs.value.pop_object_value.Goals as goal

pub set_object_cell-requires-in-Int-clause-there : goal.set_object_cell-requires-in-Int-clause-there
set_object_cell-requires-in-Int-clause-there g c =
    let h = c.args.handle in let state = g.S.Store.state in
    let n = length (object_cells (state c.args.store.now) h) in
    let popped : length (object_cells (state c.pop-high.new.self) h) ≡ n =
    ap (λ s. length (object_cells s h)) c.pop-high.ensures.state ∙ ap (λ s. length (object_cells s h)) c.pop-low.ensures.state in
    let wrote : length (object_cells (state c.set_object_cell.new.self) h) ≡ n =
    ap (λ s. length (object_cells s h)) c.set_object_cell.ensures.state ∙ (cells-kept (state c.pop-high.new.self) h c.args.at _ ∙ popped) in
    let room : c.args.at + 2 ≤ n = subst (λ (k : Kind). c.args.at + width k ≤ n) c.in-Int.is c.requires.there in
    omega (arith, wrote, room)
