use Rattle.std.proofs.Common.{◌≡◌, ◌+◌, ◌-◌, ◌<◌, ◌≤◌, length, get_or, set, ap, sym, ◌∙◌, subst, arith}
use Rattle.vm_store.specs.declared.cell.Cell.{Cell}
use Rattle.vm_store.specs.State.{State}
use Rattle.vm_store.specs.Layout.{objects_in}
use Rattle.vm_store.proofs.Handles.{cell_place, cell_written}
use Rattle.vm_store.proofs.tagged.TaggedStoreStore.set_object_cell.Goals as goal

pub overflow_add-header : goal.overflow_add-header
overflow_add-header c =
    let s = c.args.self.now in let i = c.self.inside in let d = c.index-header.result.now in
    let heap : s.heap ≡ objects_in i.cells.items i.headers.items = ap (λ z. z.heap) (sym c.self.view_is) in
    let enough : i.used ≤ length i.cells.items = omega (arith, c.self.invariant.all_cells, c.self.invariant.some_used) in
    let place : (get_or i.headers.items (c.args.handle - 1) d).start + c.args.i < i.used =
    cell_place s i.cells.items i.headers.items i.used heap c.self.invariant.laid enough d c.args.handle c.args.i c.requires.there in
    let here : d.start + c.args.i < i.used = subst (λ h. h.start + c.args.i < i.used) (sym c.index-header.ensures) place in
    omega (arith, here, c.self.invariant.some_used)

pub index_mut-requires : goal.index_mut-requires
index_mut-requires c =
    let s = c.args.self.now in let i = c.self.inside in let d = c.index-header.result.now in
    let heap : s.heap ≡ objects_in i.cells.items i.headers.items = ap (λ z. z.heap) (sym c.self.view_is) in
    let enough : i.used ≤ length i.cells.items = omega (arith, c.self.invariant.all_cells, c.self.invariant.some_used) in
    let place : (get_or i.headers.items (c.args.handle - 1) d).start + c.args.i < i.used =
    cell_place s i.cells.items i.headers.items i.used heap c.self.invariant.laid enough d c.args.handle c.args.i c.requires.there in
    let here : d.start + c.args.i < i.used = subst (λ h. h.start + c.args.i < i.used) (sym c.index-header.ensures) place in
    omega (arith, here, enough, i.cells.ok.0)

pub returns-clause-state : goal.returns-clause-state
returns-clause-state c =
    let s = c.args.self.now in let i = c.self.inside in let d = c.index-header.result.now in
    let heap : s.heap ≡ objects_in i.cells.items i.headers.items = ap (λ z. z.heap) (sym c.self.view_is) in
    let enough : i.used ≤ length i.cells.items = omega (arith, c.self.invariant.all_cells, c.self.invariant.some_used) in
    let place : (get_or i.headers.items (c.args.handle - 1) d).start + c.args.i < i.used =
    cell_place s i.cells.items i.headers.items i.used heap c.self.invariant.laid enough d c.args.handle c.args.i c.requires.there in
    let here : d.start + c.args.i < i.used = subst (λ h. h.start + c.args.i < i.used) (sym c.index-header.ensures) place in
    let put : State Cell → State Cell = λ z. record z { heap = objects_in (set i.cells.items (d.start + c.args.i) c.args.cell) i.headers.items } in
    ap put c.self.view_is
    ∙ (ap (λ h. record s { heap = objects_in (set i.cells.items (h.start + c.args.i) c.args.cell) i.headers.items }) c.index-header.ensures
    ∙ sym (cell_written s i.cells.items i.headers.items i.used heap c.self.invariant.laid enough d c.args.handle c.args.i c.args.cell c.requires.there))
