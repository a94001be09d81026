-- The words of a state, and those of its changes.
use Rattle.std.proofs.Common.{arith}
use Rattle.std.proofs.Common.{◌≡◌, ℕ, zero, suc, ◌+◌, List, [], ◌∷◌, ◌++◌, length, map, take, drop, reverse, replicate}
use Rattle.std.proofs.Common.{set, refl, sym, ap, ◌∙◌}
use Rattle.std.specs.Prelude.{slice_get, sum, sum_by, nat_lt, nat_le, ◌&&◌}
use Rattle.std.proofs.Math.ListN.{get_or-map}
use Rattle.std.proofs.lemmas.List.Sums.{sum-map}
use Rattle.std.proofs.lemmas.List.{map-append, map-set, length-map, take-map, drop-map, reverse-append}
use Rattle.jc_base.specs.declared.ty.Ty.{Ty}
use Rattle.jc_base.specs.declared.ty.Kind.{Kind}
use Rattle.jc_base.specs.declared.ty.Kind.TheVariants as fields
use Rattle.jc_base.specs.declared.record.MethodRec.{MethodRec}
use Rattle.jc_base.specs.Class.{ClassTable}
use Rattle.jc_base.specs.Dispatch.{cells_of}
use Rattle.vm_store.specs.declared.cell.Cell.{Cell}
use Rattle.vm_store.specs.declared.cell.Cell.TheVariants.{Empty}
use Rattle.vm_store.specs.declared.cell.CellKind.{CellKind}
use Rattle.vm_store.specs.declared.cell.CellKind.TheVariants as made
use Rattle.vm_store.specs.Kind.{cell_kind, element_cells}
use Rattle.vm_store.specs.Cells.{tagged, words, word_of, zero_cell}
use Rattle.vm_store.specs.State.{State, Frame, Object, map_frame, map_object, erased, first_frame, other_frames, top, nth, with_top}
use Rattle.vm_store.specs.State.{entered, arguments}
use Rattle.vm_store.specs.Objects.{cells_in, object_cells, heap_cells, repeated, write_object}
use Rattle.vm_store.specs.Objects.{with_object_cell, with_static_cell}
use Rattle.vm_store.specs.Value.{value_in, value_on, kept_value, byte_of_word, with_object_value, with_static_value}
use Rattle.vm_store.specs.Erasing.{ReadsErased, FramesErase, ObjectsErase, CellsErase, StatesErase}

-- ---- lists of cells

pub reverse-erased : (xs : List Cell) → map word_of (reverse xs) ≡ reverse (map word_of xs)
reverse-erased [] = refl
reverse-erased (x ∷ xs) =
    ap (map word_of) (reverse-append (x ∷ []) xs)
    ∙ (map-append word_of (reverse xs) (x ∷ [])
    ∙ (ap (λ ys. ys ++ word_of x ∷ []) (reverse-erased xs) ∙ sym (reverse-append (word_of x ∷ []) (map word_of xs))))

pub empty-erased : (n : ℕ) → map word_of (replicate n Empty) ≡ replicate n 0
empty-erased zero = refl
empty-erased (suc n) = ap (λ ys. 0 ∷ ys) (empty-erased n)

arguments-erased : (count : ℕ) (stack : List Cell) → map word_of (arguments count stack) ≡ arguments count (map word_of stack)
arguments-erased count stack = reverse-erased (take count stack) ∙ ap reverse (sym (take-map word_of count stack))

nth-erased : (xs : List Cell) (n : ℕ) → word_of (nth tagged xs n) ≡ nth words (map word_of xs) n
nth-erased xs n = sym (get_or-map word_of xs n Empty)

-- ---- what a state says

first-erased : (fs : List (Frame Cell)) → map_frame word_of (first_frame fs) ≡ first_frame (map (map_frame word_of) fs)
first-erased x = grind (arith)

others-erased : (fs : List (Frame Cell)) → map (map_frame word_of) (other_frames fs) ≡ other_frames (map (map_frame word_of) fs)
others-erased x = grind (arith)

kinds-erased : (os : List (Object Cell)) → map (λ (o : Object ℕ). o.kind) (map (map_object word_of) os) ≡ map (λ (o : Object Cell). o.kind) os
kinds-erased [] = refl
kinds-erased (o ∷ os) = ap (λ ks. o.kind ∷ ks) (kinds-erased os)

cells-erased : (os : List (Object Cell)) (h : ℕ) → map word_of (cells_in (slice_get os h)) ≡ cells_in (slice_get (map (map_object word_of) os) h)
cells-erased [] h = refl
cells-erased (o ∷ os) zero = refl
cells-erased (o ∷ os) (suc h) = cells-erased os h

lengths-erased : (os : List (Object Cell)) → map (λ (o : Object ℕ). length o.cells) (map (map_object word_of) os)
    ≡ map (λ (o : Object Cell). length o.cells) os
lengths-erased [] = refl
lengths-erased (o ∷ os) = cc (length-map o.cells word_of, lengths-erased os)

count-erased : (os : List (Object Cell)) → sum_by (λ (o : Object ℕ). length o.cells) (map (map_object word_of) os)
    ≡ sum_by (λ (o : Object Cell). length o.cells) os
count-erased os =
    sym (sum-map (λ (o : Object ℕ). length o.cells) (map (map_object word_of) os))
    ∙ (ap sum (lengths-erased os) ∙ sum-map (λ (o : Object Cell). length o.cells) os)

object-erased : (s : State Cell) (h : ℕ) → map word_of (object_cells s h) ≡ object_cells (erased s) h
object-erased s zero = refl
object-erased s (suc h) = cells-erased s.heap h

reads : (s : State Cell) → ReadsErased s
reads s = record {
  top_is = first-erased s.frames;
  kinds_are = kinds-erased s.heap;
  cells = object-erased s;
  room = λ count.
      ap (λ n. nat_lt n 4096 && nat_le (heap_cells (erased s) + count) 32768) (length-map s.heap (map_object word_of))
      ∙ ap (λ n. nat_lt (length s.heap) 4096 && nat_le (n + count) 32768) (count-erased s.heap);
}

-- ---- frames

frame-erased : (s : State Cell) (f : Frame Cell) → erased (with_top s f) ≡ with_top (erased s) (map_frame word_of f)
frame-erased s f = ap (λ fs. record (erased s) { frames = map_frame word_of f ∷ fs }) (others-erased s.frames)

pub entered-erased : (methods : List MethodRec) (m : ℕ) (args : List Cell) → map_frame word_of (entered tagged methods m args) ≡ entered words methods
    m (map word_of args)
entered-erased methods m args = grind (arith, map-append, replicate, length, map, empty-erased, length-map)

frames : (methods : List MethodRec) (s : State Cell) → FramesErase methods s
frames methods s = record {
  frame = frame-erased s;
  place = λ p.
      frame-erased s (record (top s) { place = p })
      ∙ ap (λ (f : Frame ℕ). with_top (erased s) (record f { place = p })) (first-erased s.frames);
  stack = λ cells.
      frame-erased s (record (top s) { stack = cells })
      ∙ ap (λ (f : Frame ℕ). with_top (erased s) (record f { stack = map word_of cells })) (first-erased s.frames);
  register = λ x c.
      frame-erased s (record (top s) { registers = set (top s).registers x c })
      ∙ (ap (λ rs. with_top (erased s) (record (map_frame word_of (top s)) { registers = rs })) (map-set word_of (top s).registers x c)
      ∙ ap (λ (f : Frame ℕ). with_top (erased s) (record f { registers = set f.registers x (word_of c) })) (first-erased s.frames));
  call = λ m count.
      ap
      (λ f. record (erased s)
      { frames = f ∷ (map_frame word_of (record (top s) { stack = drop count (top s).stack }) ∷ map (map_frame word_of) (other_frames s.frames)) })
      (entered-erased methods m (arguments count (top s).stack) ∙ ap (entered words methods m) (arguments-erased count (top s).stack))
      ∙ (ap
      (λ cells. record (erased s) {
        frames = entered words methods m (arguments count (map word_of (top s).stack)) ∷ (record (map_frame word_of (top s)) { stack = cells } ∷ map
            (map_frame word_of) (other_frames s.frames));
      })
      (sym (drop-map word_of count (top s).stack))
      ∙ (ap
      (λ (f : Frame ℕ). record (erased s) {
        frames = entered words methods m
            (arguments count f.stack) ∷ (record f { stack = drop count f.stack } ∷ map (map_frame word_of) (other_frames s.frames));
      })
      (first-erased s.frames)
      ∙ ap
      (λ fs. let caller = top (erased s) in
      record (erased s) {
        frames = entered words methods m (arguments count caller.stack) ∷ (record caller { stack = drop count caller.stack } ∷ fs);
      })
      (others-erased s.frames)));
  entry = λ m.
      ap (λ f. record (erased s) { frames = f ∷ map (map_frame word_of) s.frames }) (entered-erased methods m []);
  left = ap (λ fs. record (erased s) { frames = fs }) (others-erased s.frames);
  ended = refl;
}

-- ---- objects and static fields

write-erased : (os : List (Object Cell)) (h i : ℕ) (c : Cell) → map (map_object word_of) (write_object os h i c)
    ≡ write_object (map (map_object word_of) os) h i (word_of c)
write-erased [] h i c = refl
write-erased (o ∷ os) zero i c = ap (λ cs. record { kind = o.kind; cells = cs } ∷ map (map_object word_of) os) (map-set word_of o.cells i c)
write-erased (o ∷ os) (suc h) i c = ap (λ xs. map_object word_of o ∷ xs) (write-erased os h i c)

cell-erased : (s : State Cell) (h i : ℕ) (c : Cell) → erased (with_object_cell s h i c) ≡ with_object_cell (erased s) h i (word_of c)
cell-erased s zero i c = refl
cell-erased s (suc h) i c = ap (λ os. record (erased s) { heap = os }) (write-erased s.heap h i c)

value-erased : (cs : List Cell) (s : State Cell) (h i : ℕ) → erased (with_object_value s h i cs) ≡ with_object_value (erased s) h i (map word_of cs)
value-erased [] s h i = refl
value-erased (c ∷ cs) s h i = grind (arith, map, cell-erased, value-erased cs (with_object_cell s h i c) h (i + 1))

static-erased : (s : State Cell) (slot : ℕ) (c : Cell) → erased (with_static_cell s slot c) ≡ with_static_cell (erased s) slot (word_of c)
static-erased s slot c = ap (λ cs. record (erased s) { statics = cs }) (map-set word_of s.statics slot c)

statics-erased : (cs : List Cell) (s : State Cell) (slot : ℕ) → erased (with_static_value s slot cs) ≡ with_static_value (erased s) slot (map word_of cs)
statics-erased [] s slot = refl
statics-erased (c ∷ cs) s slot = grind (arith, map, static-erased, statics-erased cs (with_static_cell s slot c) (slot + 1))

objects : (s : State Cell) → ObjectsErase s
objects s = record {
  object = λ kind cells. ap (λ os. record (erased s) { heap = os }) (map-append (map_object word_of) s.heap (record { kind = kind; cells = cells } ∷ []));
  cell = cell-erased s;
  value = λ h i cs. value-erased cs s h i;
  static_cell = static-erased s;
  static_value = λ slot cs. statics-erased cs s slot;
}

-- ---- cells

in-erased : (kind : Kind) (xs : List Cell) (at : ℕ) → map word_of (value_in tagged kind xs at) ≡ value_in words kind (map word_of xs) at
in-erased kind xs at = grind (arith, nth-erased)

on-erased : (kind : Kind) (xs : List Cell) → map word_of (value_on tagged kind xs) ≡ value_on words kind (map word_of xs)
on-erased kind xs = grind (arith, nth-erased)

bytes-erased : (value : List Cell) → map word_of (kept_value tagged fields.Byte value) ≡ kept_value words fields.Byte (map word_of value)
bytes-erased [] = refl
bytes-erased (c ∷ cs) = ap (λ ws. words.short (byte_of_word (word_of c)) ∷ ws) (bytes-erased cs)

kept-erased : (kind : Kind) (value : List Cell) → map word_of (kept_value tagged kind value) ≡ kept_value words kind (map word_of value)
kept-erased kind value = grind (arith, bytes-erased)

zero-erased : (kind : CellKind) → word_of (zero_cell tagged kind) ≡ zero_cell words kind
zero-erased kind = grind (arith)

zeros-erased : (types : List Ty) → map word_of (map (λ ty. zero_cell tagged (cell_kind ty)) types) ≡ map (λ ty. zero_cell words (cell_kind ty)) types
zeros-erased [] = refl
zeros-erased (ty ∷ types) = cc (zero-erased (cell_kind ty), zeros-erased types)

element-erased : (ks : List CellKind) → map word_of (map (zero_cell tagged) ks) ≡ map (zero_cell words) ks
element-erased [] = refl
element-erased (k ∷ ks) = cc (zero-erased k, element-erased ks)

repeated-erased : (n : ℕ) (xs : List Cell) → map word_of (repeated n xs) ≡ repeated n (map word_of xs)
repeated-erased zero xs = refl
repeated-erased (suc n) xs = map-append word_of xs (repeated n xs) ∙ ap (λ ys. map word_of xs ++ ys) (repeated-erased n xs)

cells : (t : ClassTable) → CellsErase t
cells t = record {
  cell = nth-erased;
  read = in-erased;
  popped = on-erased;
  stored = kept-erased;
  instance = λ c. zeros-erased (cells_of t c);
  array = λ kind count. repeated-erased count (map (zero_cell tagged) (element_cells kind)) ∙ ap (repeated count) (element-erased (element_cells kind));
}

pub states-erase : (methods : List MethodRec) (t : ClassTable) → StatesErase methods t
states-erase methods t = (λ s. (reads s, frames methods s, objects s), cells t)
