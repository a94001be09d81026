use Rattle.std.proofs.Common.{◌≡◌, ℕ, ◌+◌, ◌-◌, ◌<◌, ◌∷◌, ◌++◌, [], List, length, drop, take, refl, sym, ap, ◌∙◌}
use Rattle.std.proofs.Common.{subst, arith, length-drop, length-take}
use Rattle.std.proofs.lemmas.List.{take_all, length-map}
use Rattle.jc_base.specs.Dispatch.{cells_of}
use Rattle.vm_store.specs.declared.cell.ObjectHeader.{ObjectHeader}
use Rattle.vm_store.specs.declared.cell.ObjectKind.TheVariants.{Instance}
use Rattle.vm_store.specs.Kind.{cell_kind}
use Rattle.vm_store.specs.Cells.{words, zero_cell}
use Rattle.vm_store.specs.State.{Object, State}
use Rattle.vm_store.specs.Objects.{new_instance_cells}
use Rattle.vm_store.specs.Layout.{size, objects_in, overwritten, Follow}
use Rattle.vm_store.proofs.Heaps.{added, follow-more}
use Rattle.vm_offend.specs.Words.{words_state, headers_in, HaveKindWords}
use Rattle.vm_offend.proofs.ObjectWords.{objects-laid, cells-enough, room-there}
use Rattle.vm_offend.proofs.WordHeaps.{length-headers_in, new-cells, new-headers, new-kinds, new-length}
use Rattle.vm_offend.proofs.words.WordStoreStore.make_instance.Goals as goal

pub fill_instance-requires-clause-room : goal.fill_instance-requires-clause-room
fill_instance-requires-clause-room c =
    let s = c.args.self.now in let laid = c.requires.well in
    let known = objects-laid s.world.now s.ram.now s.heap.now s.counts laid in
    let xs = drop 12288 s.heap.now in
    let room = room-there s.heap.now s.counts known (length (cells_of c.args.world.now.classes c.args.class)) c.requires.room in
    omega (arith, room.all, laid.heap_length, length-take (length s.heap.now - 12288) xs, length-drop 12288 s.heap.now)

pub overflow_add-self-2 : goal.overflow_add-self-2
overflow_add-self-2 c =
    let s = c.args.self.now in let laid = c.requires.well in
    let known = objects-laid s.world.now s.ram.now s.heap.now s.counts laid in
    let room = room-there s.heap.now s.counts known (length (cells_of c.args.world.now.classes c.args.class)) c.requires.room in
    omega (arith, room.all, c.class.ensures.cells)

pub returns-clause-handle : goal.returns-clause-handle
returns-clause-handle c =
    let s = c.args.self.now in let n = s.counts.objects in
    let hs = headers_in s.heap.now n in
    let count : length (objects_in (drop 12288 s.heap.now) hs) ≡ n = length-map hs _ ∙ length-headers_in s.heap.now n in
    omega (arith, count)

pub returns-clause-state : goal.returns-clause-state
returns-clause-state c =
    let s = c.args.self.now in let laid = c.requires.well in let n = s.counts.objects in
    let known = objects-laid s.world.now s.ram.now s.heap.now s.counts laid in
    let z : State ℕ = words_state s.world.now.methods s.ram.now s.heap.now s.statics.now s.counts in
    let xs = drop 12288 s.heap.now in let hs = headers_in s.heap.now n in
    let room = room-there s.heap.now s.counts known (length (cells_of c.args.world.now.classes c.args.class)) c.requires.room in
    let numbered : c.args.class < 4096 = omega (arith, c.requires.class.number, c.class_count-limit.ensures.is, c.class_count-limit.ensures.most) in
    let ws = c.fill_instance.new.cells in
    let h : ObjectHeader = record { kind = Instance c.args.class; start = s.counts.cells; elements = c.class.result.now.cells } in
    let news = new_instance_cells words c.args.world.now.classes c.args.class in
    let width : size h ≡ length news = omega
    (arith, c.class.ensures.cells, length-map (cells_of c.args.world.now.classes c.args.class) (λ ty. zero_cell words (cell_kind ty))) in
    let part : take (length s.heap.now - 12288) xs ≡ xs = take_all (length s.heap.now - 12288) xs (omega (arith, length-drop 12288 s.heap.now)) in
    let same : length ws ≡ length s.heap.now - 12288 = c.fill_instance.auto.cells ∙ (ap length part ∙ length-drop 12288 s.heap.now) in
    let written : ws ≡ overwritten xs s.counts.cells news = c.fill_instance.ensures ∙ ap (λ ys. overwritten ys s.counts.cells news) part in
    let H = c.set_header.new.heap in
    let put : List (Object ℕ) → State ℕ = λ os. record z { heap = os } in
    let cells : drop 12288 H ≡ ws = ap (drop 12288) c.set_header.ensures ∙ new-cells s.heap.now ws n (length s.heap.now - 12288) h room.one laid.heap_length
    refl same numbered in
    let headers : headers_in H (n + 1) ≡ hs ++ h ∷ [] = ap (λ g. headers_in g (n + 1)) c.set_header.ensures
    ∙ new-headers s.heap.now ws n (length s.heap.now - 12288) h room.one laid.heap_length refl same numbered in
    ap (λ cs. put (objects_in cs (headers_in H (n + 1)))) cells
    ∙ (ap (λ gs. put (objects_in ws gs)) headers
    ∙ ap put (added xs ws news hs s.counts.cells h laid.laid (cells-enough s.heap.now s.counts known) written refl width))

pub returns-clause-well : goal.returns-clause-well
returns-clause-well c =
    let s = c.args.self.now in let laid = c.requires.well in let n = s.counts.objects in
    let known = objects-laid s.world.now s.ram.now s.heap.now s.counts laid in
    let xs = drop 12288 s.heap.now in let hs = headers_in s.heap.now n in
    let room = room-there s.heap.now s.counts known (length (cells_of c.args.world.now.classes c.args.class)) c.requires.room in
    let numbered : c.args.class < 4096 = omega (arith, c.requires.class.number, c.class_count-limit.ensures.is, c.class_count-limit.ensures.most) in
    let ws = c.fill_instance.new.cells in
    let h : ObjectHeader = record { kind = Instance c.args.class; start = s.counts.cells; elements = c.class.result.now.cells } in
    let part : take (length s.heap.now - 12288) xs ≡ xs = take_all (length s.heap.now - 12288) xs (omega (arith, length-drop 12288 s.heap.now)) in
    let same : length ws ≡ length s.heap.now - 12288 = c.fill_instance.auto.cells ∙ (ap length part ∙ length-drop 12288 s.heap.now) in
    let H = c.set_header.new.heap in
    let headers : headers_in H (n + 1) ≡ hs ++ h ∷ [] = ap (λ g. headers_in g (n + 1)) c.set_header.ensures
    ∙ new-headers s.heap.now ws n (length s.heap.now - 12288) h room.one laid.heap_length refl same numbered in
    let longer : Follow 0 (hs ++ h ∷ []) (s.counts.cells + size h) = follow-more 0 hs s.counts.cells h laid.laid refl in
    let size_is : size h ≡ c.class.result.now.cells = omega arith in
    let follow : Follow 0 (hs ++ h ∷ []) (s.counts.cells + c.class.result.now.cells) = subst (λ k. Follow 0 (hs ++ h ∷ []) (s.counts.cells + k))
    size_is longer in
    record {
      ram_length = laid.ram_length;
      heap_length = ap length c.set_header.ensures ∙ new-length s.heap.now ws n (length s.heap.now - 12288) h room.one laid.heap_length refl same numbered;
      some_frames = laid.some_frames;
      some_objects = omega (arith, room.one);
      some_cells = omega (arith, room.all, c.class.ensures.cells);
      windows = laid.windows;
      laid = subst (λ gs. Follow 0 gs (s.counts.cells + c.class.result.now.cells)) (sym headers) follow;
      kinds = subst (λ g. HaveKindWords g (n + 1)) (sym c.set_header.ensures)
          (new-kinds s.heap.now ws n (length s.heap.now - 12288) h room.one laid.heap_length refl same numbered laid.kinds);
    }
