use Rattle.std.proofs.Common.{◌≡◌, ℕ, ◌+◌, ◌-◌, List, length, drop, set, refl, sym, ap, ◌∙◌, subst, arith, length-set}
use Rattle.vm_store.specs.State.{State}
use Rattle.vm_store.specs.Layout.{objects_in, Follow}
use Rattle.vm_store.specs.declared.cell.ObjectHeader.{ObjectHeader}
use Rattle.vm_offend.specs.Words.{words_state, headers_in, header_at, HaveKindWords}
use Rattle.vm_offend.proofs.WordHeaps.{cell-headers, cell-kinds, cell-cells}
use Rattle.vm_offend.proofs.ObjectWords.{objects-laid, cells-enough, cell-header, cell-header-inside, cell-inside}
use Rattle.vm_store.proofs.Handles.{cell_written}
use Rattle.vm_offend.proofs.words.WordStoreStore.set_object_cell.Goals as goal

pub set_cell-requires-clause-there : goal.set_cell-requires-clause-there
set_cell-requires-clause-there c =
    let s = c.args.self.now in
    let known = objects-laid s.world.now s.ram.now s.heap.now s.counts c.requires.well in
    omega (arith, cell-header-inside s.heap.now s.counts known c.args.handle c.args.i c.requires.there)

pub set_cell-requires-clause-inside : goal.set_cell-requires-clause-inside
set_cell-requires-clause-inside c =
    let s = c.args.self.now in let laid = c.requires.well in
    let known = objects-laid s.world.now s.ram.now s.heap.now s.counts laid in
    omega (arith, cell-inside s.heap.now s.counts known c.args.handle c.args.i c.requires.there, laid.some_cells, laid.heap_length)

pub returns-clause-state : goal.returns-clause-state
returns-clause-state c =
    let s = c.args.self.now in let laid = c.requires.well in let n = s.counts.objects in
    let known = objects-laid s.world.now s.ram.now s.heap.now s.counts laid in
    let z : State ℕ = words_state s.world.now.methods s.ram.now s.heap.now s.statics.now s.counts in
    let xs = drop 12288 s.heap.now in let hs = headers_in s.heap.now n in
    let d : ObjectHeader = header_at s.heap.now (c.args.handle - 1) in
    let v = c.args.cell in let p = d.start + c.args.i in
    let put : List ℕ → List ObjectHeader → State ℕ = λ cs gs. record z { heap = objects_in cs gs } in
    ap (λ heap. put (drop 12288 heap) (headers_in heap n)) c.set_cell.ensures
    ∙ (ap (put (drop 12288 (set s.heap.now (12288 + p) v))) (cell-headers s.heap.now n p v laid.some_objects)
    ∙ (ap (λ cs. put cs hs) (cell-cells s.heap.now n p v laid.some_objects)
    ∙ (ap (λ (x : ObjectHeader). put (set xs (x.start + c.args.i) v) hs)
    (sym (cell-header s.heap.now s.counts known c.args.handle c.args.i c.requires.there))
    ∙ sym (cell_written z xs hs s.counts.cells refl laid.laid (cells-enough s.heap.now s.counts known) d c.args.handle c.args.i v c.requires.there))))

pub returns-clause-well : goal.returns-clause-well
returns-clause-well c =
    let s = c.args.self.now in let laid = c.requires.well in let n = s.counts.objects in
    let v = c.args.cell in let p = (header_at s.heap.now (c.args.handle - 1)).start + c.args.i in
    let same : headers_in c.set_cell.new.heap n ≡ headers_in s.heap.now n = ap (λ heap. headers_in heap n) c.set_cell.ensures
    ∙ cell-headers s.heap.now n p v laid.some_objects in
    record {
      ram_length = laid.ram_length;
      heap_length = ap length c.set_cell.ensures ∙ (length-set s.heap.now (12288 + p) v ∙ laid.heap_length);
      some_frames = laid.some_frames;
      some_objects = laid.some_objects;
      some_cells = laid.some_cells;
      windows = laid.windows;
      laid = subst (λ gs. Follow 0 gs s.counts.cells) (sym same) laid.laid;
      kinds = subst (λ g. HaveKindWords g n) (sym c.set_cell.ensures) (cell-kinds s.heap.now n p v laid.some_objects laid.kinds);
    }
