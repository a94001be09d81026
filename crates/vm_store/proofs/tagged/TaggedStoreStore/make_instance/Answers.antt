use Rattle.std.proofs.Common.{◌≡◌, ◌≤◌, length, ap, sym, ◌∙◌, refl, arith}
use Rattle.std.proofs.lemmas.List.{with_items_is, length-map}
use Rattle.std.specs.Vec.{with_items}
use Rattle.jc_base.specs.Dispatch.{cells_of}
use Rattle.vm_store.specs.Cells.{tagged}
use Rattle.vm_store.specs.Objects.{new_instance_cells}
use Rattle.vm_store.specs.Layout.{objects_in, overwritten}
use Rattle.vm_store.proofs.Rooms.{HasRoom, room_for}
use Rattle.vm_store.proofs.TaggedHeaps.{in_order-more, state-more}
use Rattle.vm_store.proofs.tagged.TaggedStoreStore.make_instance.Goals as goal

pub fill_instance-requires-clause-room : goal.fill_instance-requires-clause-room
fill_instance-requires-clause-room c =
    let s = c.args.self.now in let i = c.self.inside in
    let heap : s.heap ≡ objects_in i.cells.items i.headers.items = ap (λ z. z.heap) (sym c.self.view_is) in
    let enough : i.used ≤ length i.cells.items = omega (arith, c.self.invariant.all_cells, c.self.invariant.some_used) in
    let n = length (cells_of c.args.world.now.classes c.args.class) in
    let room : HasRoom (length i.headers.items) i.used n =
    room_for s i.cells.items i.headers.items i.used heap c.self.invariant.laid enough n c.requires.room in
    omega (arith, room.all, c.self.invariant.all_cells, ap length c.as_mut_slice.ensures.value)

pub invariant_of-self : goal.invariant_of-self
invariant_of-self c =
    let s = c.args.self.now in let i = c.self.inside in
    let heap : s.heap ≡ objects_in i.cells.items i.headers.items = ap (λ z. z.heap) (sym c.self.view_is) in
    let enough : i.used ≤ length i.cells.items = omega (arith, c.self.invariant.all_cells, c.self.invariant.some_used) in
    let n = length (cells_of c.args.world.now.classes c.args.class) in
    let room : HasRoom (length i.headers.items) i.used n =
    room_for s i.cells.items i.headers.items i.used heap c.self.invariant.laid enough n c.requires.room in
    let wrote : length (with_items i.cells c.fill_instance.new.cells).items ≡ length i.cells.items =
    ap length (with_items_is i.cells c.fill_instance.new.cells (c.fill_instance.auto.cells ∙ c.as_mut_slice.ensures.len))
    ∙ (c.fill_instance.auto.cells ∙ ap length c.as_mut_slice.ensures.value) in
    in_order-more _ _ _ _ i.used c.class.result.now.cells _ _ i.headers.items _ _ c.self.invariant room.one refl (omega arith)
    (omega (arith, room.all, c.class.ensures.cells)) c.push_reserved.ensures.items c.push_reserved.ensures.capacity wrote

pub returns-clause-state : goal.returns-clause-state
returns-clause-state c =
    let s = c.args.self.now in let i = c.self.inside in
    let heap : s.heap ≡ objects_in i.cells.items i.headers.items = ap (λ z. z.heap) (sym c.self.view_is) in
    let enough : i.used ≤ length i.cells.items = omega (arith, c.self.invariant.all_cells, c.self.invariant.some_used) in
    let t = c.args.world.now.classes in
    let news = new_instance_cells tagged t c.args.class in
    let wrote : (with_items i.cells c.fill_instance.new.cells).items ≡ overwritten i.cells.items i.used news =
    with_items_is i.cells c.fill_instance.new.cells (c.fill_instance.auto.cells ∙ c.as_mut_slice.ensures.len)
    ∙ (c.fill_instance.ensures ∙ ap (λ xs. overwritten xs i.used news) c.as_mut_slice.ensures.value) in
    let len : length news ≡ c.class.result.now.cells = length-map (cells_of t c.args.class) _ ∙ c.class.ensures.cells in
    state-more _ i.statics.items i.cells.items _ news i.headers.items _ i.used _ s c.self.view_is c.self.invariant.laid enough wrote refl
    (omega (arith, len)) c.push_reserved.ensures.items
