use Rattle.std.proofs.Common.{◌≡◌, ◌≤◌, length, ap, sym, ◌∙◌, arith}
use Rattle.std.specs.Prelude.{Some}
use Rattle.vm_store.specs.Layout.{objects_in}
use Rattle.vm_store.proofs.Handles.{is_handle, kind_is}
use Rattle.vm_store.proofs.tagged.TaggedStoreStore.kind.Goals as goal

pub returns : goal.returns
returns c =
    let s = c.args.self.now in let i = c.self.inside in let d = c.index.result.now in
    let heap : s.heap ≡ objects_in i.cells.items i.headers.items = ap (λ z. z.heap) (sym c.self.view_is) in
    let enough : i.used ≤ length i.cells.items = omega (arith, c.self.invariant.all_cells, c.self.invariant.some_used) in
    let h = is_handle s i.cells.items i.headers.items i.used heap c.self.invariant.laid enough d c.args.handle c.requires.there in
    kind_is s i.cells.items i.headers.items i.used heap c.self.invariant.laid enough d c.args.handle h
    ∙ ap (λ x. Some x.kind) (sym c.index.ensures)
