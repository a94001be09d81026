use Rattle.std.proofs.Common.{ℕ, ◌≤◌, length, drop, refl, arith, length-drop}
use Rattle.vm_store.specs.State.{State}
use Rattle.vm_offend.specs.Words.{words_state, headers_in}
use Rattle.vm_offend.proofs.WordHeaps.{length-headers_in}
use Rattle.vm_store.proofs.Rooms.{room_then, room_else}
use Rattle.vm_offend.proofs.words.WordStoreStore.has_room.Goals as goal

pub returns-then-self-ge-OBJECTS : goal.returns-then-self-ge-OBJECTS
returns-then-self-ge-OBJECTS c =
    let s = c.args.self.now in let laid = c.requires.well in let n = s.counts.objects in
    let z : State ℕ = words_state s.world.now.methods s.ram.now s.heap.now s.statics.now s.counts in
    let xs = drop 12288 s.heap.now in let hs = headers_in s.heap.now n in
    let enough : s.counts.cells ≤ length xs = omega (arith, laid.heap_length, laid.some_cells, length-drop 12288 s.heap.now) in
    room_else z xs hs s.counts.cells refl laid.laid enough c.args.cells (omega (arith, length-headers_in s.heap.now n, c.if-self-ge-OBJECTS.true))

pub returns : goal.returns
returns c =
    let s = c.args.self.now in let laid = c.requires.well in let n = s.counts.objects in
    let z : State ℕ = words_state s.world.now.methods s.ram.now s.heap.now s.statics.now s.counts in
    let xs = drop 12288 s.heap.now in let hs = headers_in s.heap.now n in
    let enough : s.counts.cells ≤ length xs = omega (arith, laid.heap_length, laid.some_cells, length-drop 12288 s.heap.now) in
    room_then z xs hs s.counts.cells refl laid.laid enough c.args.cells (omega (arith, length-headers_in s.heap.now n, c.if-self-ge-OBJECTS.false))
