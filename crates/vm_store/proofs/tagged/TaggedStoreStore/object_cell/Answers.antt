use Rattle.std.proofs.Common.{◌≡◌, ◌+◌, ◌<◌, ◌≤◌, length, get_or, ap, sym, ◌∙◌, subst, arith}
use Rattle.std.proofs.lemmas.List.{get_or_default}
use Rattle.vm_store.specs.declared.cell.Cell.TheVariants.{Empty}
use Rattle.vm_store.specs.Layout.{objects_in}
use Rattle.vm_store.proofs.Handles.{cell_place, cell_read}
use Rattle.vm_store.proofs.tagged.TaggedStoreStore.object_cell.Goals as goal
use Rattle.vm_store.proofs.tagged.TaggedStoreStore.object_cell.Goals.{After-index-header}

enough : (c : After-index-header) → c.self.inside.used ≤ length c.self.inside.cells.items
enough c = omega (arith, c.self.invariant.all_cells, c.self.invariant.some_used)

laid : (c : After-index-header) → c.args.self.now.heap ≡ objects_in c.self.inside.cells.items c.self.inside.headers.items
laid c = ap (λ z. z.heap) (sym c.self.view_is)

here : (c : After-index-header) → c.index-header.result.now.start + c.args.i < c.self.inside.used
here c =
    let i = c.self.inside in let d = c.index-header.result.now in
    subst (λ h. h.start + c.args.i < i.used) (sym c.index-header.ensures)
    (cell_place c.args.self.now i.cells.items i.headers.items i.used (laid c) c.self.invariant.laid (enough c) d c.args.handle c.args.i c.requires.there)

pub overflow_add-header : goal.overflow_add-header
overflow_add-header c = omega (arith, here (goal.at.overflow_add-header c).After-index-header, c.self.invariant.some_used)

pub index-requires : goal.index-requires
index-requires c =
    let at = (goal.at.index-requires c).After-index-header in
    omega (arith, here at, enough at, c.self.inside.cells.ok.0)

pub returns : goal.returns
returns c =
    let i = c.self.inside in let d = c.index-header.result.now in let at = (goal.at.returns c).After-index-header in
    c.index.ensures
    ∙ (get_or_default i.cells.items (d.start + c.args.i) c.index.result.now Empty (omega (arith, here at, enough at))
    ∙ (ap (λ h. get_or i.cells.items (h.start + c.args.i) Empty) c.index-header.ensures
    ∙ sym (cell_read c.args.self.now i.cells.items i.headers.items i.used (laid at) c.self.invariant.laid (enough at) d c.args.handle c.args.i
    c.requires.there Empty)))
