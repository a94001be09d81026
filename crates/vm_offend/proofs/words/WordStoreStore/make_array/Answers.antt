use Rattle.std.proofs.Common.{◌≡◌, ℕ, ◌+◌, ◌-◌, ◌*◌, ◌∷◌, ◌++◌, [], List, length, drop, take, refl, sym, ap}
use Rattle.std.proofs.Common.{◌∙◌, subst, arith, length-drop, length-take}
use Rattle.std.proofs.lemmas.List.{take_all, length-map}
use Rattle.vm_store.specs.declared.cell.ObjectHeader.{ObjectHeader}
use Rattle.vm_store.specs.Kind.{element_width}
use Rattle.vm_store.specs.Cells.{words}
use Rattle.vm_store.specs.State.{Object, State}
use Rattle.vm_store.specs.Objects.{array_cells}
use Rattle.vm_store.specs.Layout.{size, objects_in, overwritten, Follow}
use Rattle.vm_store.proofs.Heaps.{added, follow-more}
use Rattle.vm_store.proofs.Fills.{length-array}
use Rattle.vm_offend.specs.Words.{words_state, headers_in, HaveKindWords}
use Rattle.vm_offend.proofs.ObjectWords.{objects-laid, cells-enough, room-there}
use Rattle.vm_offend.proofs.WordHeaps.{length-headers_in, new-cells, new-headers, new-kinds, new-length}
use Rattle.vm_offend.proofs.words.WordStoreStore.make_array.Goals as goal

pub fill_array-requires-clause-room : goal.fill_array-requires-clause-room
fill_array-requires-clause-room c =
    let s = c.args.self.now in let laid = c.requires.well in
    let known = objects-laid s.world.now s.ram.now s.heap.now s.counts laid in
    let xs = drop 12288 s.heap.now in
    let room = room-there s.heap.now s.counts known (element_width c.args.kind * c.args.count) c.requires.room in
    omega (arith, room.all, laid.heap_length, length-take (length s.heap.now - 12288) xs, length-drop 12288 s.heap.now)

pub overflow_add-self-2 : goal.overflow_add-self-2
overflow_add-self-2 c =
    let s = c.args.self.now in let laid = c.requires.well in
    let known = objects-laid s.world.now s.ram.now s.heap.now s.counts laid in
    let room = room-there s.heap.now s.counts known (element_width c.args.kind * c.args.count) c.requires.room in
    omega (arith, room.all, c.size.ensures)

pub returns-clause-handle : goal.returns-clause-handle
returns-clause-handle c =
    let s = c.args.self.now in let n = s.counts.objects in
    let hs = headers_in s.heap.now n in
    let count : length (objects_in (drop 12288 s.heap.now) hs) ≡ n = length-map hs _ ∙ length-headers_in s.heap.now n in
    omega (arith, count)

pub returns-clause-state : goal.returns-clause-state
returns-clause-state c =
    let s = c.args.self.now in let laid = c.requires.well in let n = s.counts.objects in
    let known = objects-laid s.world.now s.ram.now s.heap.now s.counts laid in
    let z : State ℕ = words_state s.world.now.methods s.ram.now s.heap.now s.statics.now s.counts in
    let xs = drop 12288 s.heap.now in let hs = headers_in s.heap.now n in
    let room = room-there s.heap.now s.counts known (element_width c.args.kind * c.args.count) c.requires.room in
    let ws = c.fill_array.new.cells in
    let h : ObjectHeader = record { kind = c.args.kind; start = s.counts.cells; elements = c.args.count } in
    let news = array_cells words c.args.kind c.args.count in
    let width : size h ≡ length news = sym (length-array words c.args.kind c.args.count) in
    let part : take (length s.heap.now - 12288) xs ≡ xs = take_all (length s.heap.now - 12288) xs (omega (arith, length-drop 12288 s.heap.now)) in
    let same : length ws ≡ length s.heap.now - 12288 = c.fill_array.auto.cells ∙ (ap length part ∙ length-drop 12288 s.heap.now) in
    let written : ws ≡ overwritten xs s.counts.cells news = c.fill_array.ensures ∙ ap (λ ys. overwritten ys s.counts.cells news) part in
    let H = c.set_header.new.heap in
    let put : List (Object ℕ) → State ℕ = λ os. record z { heap = os } in
    let cells : drop 12288 H ≡ ws = ap (drop 12288) c.set_header.ensures ∙ new-cells s.heap.now ws n (length s.heap.now - 12288) h room.one laid.heap_length
    refl same c.requires.class in
    let headers : headers_in H (n + 1) ≡ hs ++ h ∷ [] = ap (λ g. headers_in g (n + 1)) c.set_header.ensures
    ∙ new-headers s.heap.now ws n (length s.heap.now - 12288) h room.one laid.heap_length refl same c.requires.class in
    ap (λ cs. put (objects_in cs (headers_in H (n + 1)))) cells
    ∙ (ap (λ gs. put (objects_in ws gs)) headers
    ∙ ap put (added xs ws news hs s.counts.cells h laid.laid (cells-enough s.heap.now s.counts known) written refl width))

pub returns-clause-well : goal.returns-clause-well
returns-clause-well c =
    let s = c.args.self.now in let laid = c.requires.well in let n = s.counts.objects in
    let known = objects-laid s.world.now s.ram.now s.heap.now s.counts laid in
    let xs = drop 12288 s.heap.now in let hs = headers_in s.heap.now n in
    let room = room-there s.heap.now s.counts known (element_width c.args.kind * c.args.count) c.requires.room in
    let ws = c.fill_array.new.cells in
    let h : ObjectHeader = record { kind = c.args.kind; start = s.counts.cells; elements = c.args.count } in
    let part : take (length s.heap.now - 12288) xs ≡ xs = take_all (length s.heap.now - 12288) xs (omega (arith, length-drop 12288 s.heap.now)) in
    let same : length ws ≡ length s.heap.now - 12288 = c.fill_array.auto.cells ∙ (ap length part ∙ length-drop 12288 s.heap.now) in
    let H = c.set_header.new.heap in
    let headers : headers_in H (n + 1) ≡ hs ++ h ∷ [] = ap (λ g. headers_in g (n + 1)) c.set_header.ensures
    ∙ new-headers s.heap.now ws n (length s.heap.now - 12288) h room.one laid.heap_length refl same c.requires.class in
    let longer : Follow 0 (hs ++ h ∷ []) (s.counts.cells + size h) = follow-more 0 hs s.counts.cells h laid.laid refl in
    let size_is : size h ≡ c.size.result = sym c.size.ensures in
    let follow : Follow 0 (hs ++ h ∷ []) (s.counts.cells + c.size.result) = subst (λ k. Follow 0 (hs ++ h ∷ []) (s.counts.cells + k)) size_is longer in
    record {
      ram_length = laid.ram_length;
      heap_length = ap length c.set_header.ensures
          ∙ new-length s.heap.now ws n (length s.heap.now - 12288) h room.one laid.heap_length refl same c.requires.class;
      some_frames = laid.some_frames;
      some_objects = omega (arith, room.one);
      some_cells = omega (arith, room.all, c.size.ensures);
      windows = laid.windows;
      laid = subst (λ gs. Follow 0 gs (s.counts.cells + c.size.result)) (sym headers) follow;
      kinds = subst (λ g. HaveKindWords g (n + 1)) (sym c.set_header.ensures)
          (new-kinds s.heap.now ws n (length s.heap.now - 12288) h room.one laid.heap_length refl same c.requires.class laid.kinds);
    }
