use Rattle.std.proofs.Common.{◌≡◌, ◌<◌, ◌≤◌, length, ap, sym, arith}
use Rattle.vm_store.specs.Layout.{objects_in}
use Rattle.vm_store.proofs.Rooms.{room_then}
use Rattle.vm_store.proofs.tagged.TaggedStoreStore.has_room.Goals as goal

pub returns-then-len-lt-OBJECTS : goal.returns-then-len-lt-OBJECTS
returns-then-len-lt-OBJECTS c =
    let s = c.args.self.now in let i = c.self.inside in
    let heap : s.heap ≡ objects_in i.cells.items i.headers.items = ap (λ z. z.heap) (sym c.self.view_is) in
    let enough : i.used ≤ length i.cells.items = omega (arith, c.self.invariant.all_cells, c.self.invariant.some_used) in
    let few : length i.headers.items < 4096 = omega (arith, c.if-len-lt-OBJECTS.true, c.len.ensures) in
    room_then s i.cells.items i.headers.items i.used heap c.self.invariant.laid enough c.args.cells few
