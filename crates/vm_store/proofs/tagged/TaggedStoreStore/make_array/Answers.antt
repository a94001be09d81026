use Rattle.std.proofs.Common.{◌≡◌, ◌*◌, ◌≤◌, length, ap, sym, ◌∙◌, refl, arith}
use Rattle.std.proofs.lemmas.List.{with_items_is}
use Rattle.std.specs.Vec.{with_items}
use Rattle.vm_store.specs.Kind.{element_width}
use Rattle.vm_store.specs.Cells.{tagged}
use Rattle.vm_store.specs.Objects.{array_cells}
use Rattle.vm_store.specs.Layout.{objects_in, overwritten}
use Rattle.vm_store.proofs.Rooms.{HasRoom, room_for}
use Rattle.vm_store.proofs.Fills.{length-array}
use Rattle.vm_store.proofs.TaggedHeaps.{in_order-more, state-more}
use Rattle.vm_store.proofs.tagged.TaggedStoreStore.make_array.Goals as goal

pub fill_array-requires-clause-room : goal.fill_array-requires-clause-room
fill_array-requires-clause-room c =
    let s = c.args.self.now in let i = c.self.inside in
    let heap : s.heap ≡ objects_in i.cells.items i.headers.items = ap (λ z. z.heap) (sym c.self.view_is) in
    let enough : i.used ≤ length i.cells.items = omega (arith, c.self.invariant.all_cells, c.self.invariant.some_used) in
    let room : HasRoom (length i.headers.items) i.used (element_width c.args.kind * c.args.count) =
    room_for s i.cells.items i.headers.items i.used heap c.self.invariant.laid enough (element_width c.args.kind * c.args.count) c.requires.room in
    omega (arith, room.all, c.self.invariant.all_cells, ap length c.as_mut_slice.ensures.value)

pub invariant_of-self : goal.invariant_of-self
invariant_of-self c =
    let s = c.args.self.now in let i = c.self.inside in
    let heap : s.heap ≡ objects_in i.cells.items i.headers.items = ap (λ z. z.heap) (sym c.self.view_is) in
    let enough : i.used ≤ length i.cells.items = omega (arith, c.self.invariant.all_cells, c.self.invariant.some_used) in
    let room : HasRoom (length i.headers.items) i.used (element_width c.args.kind * c.args.count) =
    room_for s i.cells.items i.headers.items i.used heap c.self.invariant.laid enough (element_width c.args.kind * c.args.count) c.requires.room in
    let width : c.width.result * c.args.count ≡ element_width c.args.kind * c.args.count = ap (λ w. w * c.args.count) c.width.ensures.value in
    let wrote : length (with_items i.cells c.fill_array.new.cells).items ≡ length i.cells.items =
    ap length (with_items_is i.cells c.fill_array.new.cells (c.fill_array.auto.cells ∙ c.as_mut_slice.ensures.len))
    ∙ (c.fill_array.auto.cells ∙ ap length c.as_mut_slice.ensures.value) in
    in_order-more _ _ _ _ i.used (c.width.result * c.args.count) _ _ i.headers.items _ _ c.self.invariant room.one refl (sym width)
    (omega (arith, room.all, width)) c.push_reserved.ensures.items c.push_reserved.ensures.capacity wrote

pub returns-clause-state : goal.returns-clause-state
returns-clause-state c =
    let s = c.args.self.now in let i = c.self.inside in
    let heap : s.heap ≡ objects_in i.cells.items i.headers.items = ap (λ z. z.heap) (sym c.self.view_is) in
    let enough : i.used ≤ length i.cells.items = omega (arith, c.self.invariant.all_cells, c.self.invariant.some_used) in
    let wrote : (with_items i.cells c.fill_array.new.cells).items ≡ overwritten i.cells.items i.used (array_cells tagged c.args.kind c.args.count) =
    with_items_is i.cells c.fill_array.new.cells (c.fill_array.auto.cells ∙ c.as_mut_slice.ensures.len)
    ∙ (c.fill_array.ensures ∙ ap (λ xs. overwritten xs i.used (array_cells tagged c.args.kind c.args.count)) c.as_mut_slice.ensures.value) in
    state-more _ i.statics.items i.cells.items _ (array_cells tagged c.args.kind c.args.count) i.headers.items _ i.used _ s c.self.view_is
    c.self.invariant.laid enough wrote refl
    (sym (length-array tagged c.args.kind c.args.count)) c.push_reserved.ensures.items
