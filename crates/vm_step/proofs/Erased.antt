-- The state in which a run of words begins is that of tagged cells without their kinds.
use Rattle.std.proofs.Common.{arith}
use Rattle.std.proofs.Common.{◌≡◌, ◌+◌, ℕ, List, [], ◌∷◌, ◌++◌, length, map, refl, ap, ◌∙◌}
use Rattle.std.specs.Prelude.{flat_map, slice_get}
use Rattle.std.proofs.lemmas.List.{map-append}
use Rattle.jc_base.specs.declared.ty.Ty.{Ty}
use Rattle.jc_base.specs.declared.ty.Ty.TheVariants as types
use Rattle.jc_base.specs.declared.ty.Kind.{Kind}
use Rattle.jc_base.specs.declared.ty.Kind.TheVariants as fields
use Rattle.jc_base.specs.declared.record.StaticRec.{StaticRec}
use Rattle.jc_base.specs.declared.record.ArrayRec.{ArrayRec}
use Rattle.jc_base.specs.World.{Linked}
use Rattle.vm_store.specs.declared.cell.Cell.{Cell}
use Rattle.vm_store.specs.declared.cell.ObjectKind.{ObjectKind}
use Rattle.vm_store.specs.declared.cell.ObjectKind.TheVariants.{Bytes}
use Rattle.vm_store.specs.Cells.{tagged, words, word_of}
use Rattle.vm_store.specs.State.{State, Frame, Object, erased, map_object, map_frame, entered}
use Rattle.vm_store.specs.Objects.{with_object}
use Rattle.vm_store.specs.Value.{byte_of_word}
use Rattle.vm_store.proofs.Erasing.{entered-erased}
use Rattle.vm_step.specs.Methods.{of_method}
use Rattle.vm_step.specs.Arguments.{Argument, number, null, bytes}
use Rattle.vm_step.specs.Start.{field_cells, int_cells, initial_element_cells, initial_object, initial, with_arrays, argument_cells, arrays_made, cells_handed}
use Rattle.vm_step.specs.Start.{parameters, entry_state}

-- a cell for each word
each-word : (f : ℕ → Cell) (ws : List ℕ) → map word_of (map f ws) ≡ map (λ w. word_of (f w)) ws
each-word f [] = refl
each-word f (w ∷ ws) = ap (λ (xs : List ℕ). word_of (f w) ∷ xs) (each-word f ws)

-- ---- what the world has

field-erased : (kind : Kind) (ws : List ℕ) → map word_of (field_cells tagged kind ws) ≡ field_cells words kind ws
field-erased kind ws = grind (arith, each-word)

statics-erased : (fs : List StaticRec) → map word_of (flat_map (λ f. field_cells tagged f.kind f.initial) fs)
    ≡ flat_map (λ f. field_cells words f.kind f.initial) fs
statics-erased [] = refl
statics-erased (f ∷ fs) = grind (arith, map-append, map, field-erased, statics-erased fs)

ints-erased : (ws : List ℕ) → map word_of (int_cells tagged ws) ≡ int_cells words ws
ints-erased [] = refl
ints-erased (a ∷ []) = refl
ints-erased (a ∷ b ∷ ws) = ap (λ (xs : List ℕ). a ∷ b ∷ xs) (ints-erased ws)

elements-erased : (kind : ObjectKind) (ws : List ℕ) → map word_of (initial_element_cells tagged kind ws) ≡ initial_element_cells words kind ws
elements-erased kind ws = grind (arith, ints-erased, each-word)

objects-erased : (xs : List ArrayRec) → map (map_object word_of) (map (initial_object tagged) xs) ≡ map (initial_object words) xs
objects-erased [] = refl
objects-erased (a ∷ xs) = grind (arith, map, elements-erased, objects-erased xs)

made : List (Object ℕ) → List ℕ → State ℕ
made heap statics = record { frames = []; heap = heap; statics = statics }

initial-erased : (w : Linked) → erased (initial tagged w) ≡ initial words w
unfolding made
initial-erased w = grind (arith, objects-erased w.arrays, made (map (initial_object words) w.arrays), statics-erased w.statics)

-- ---- what is handed in

arrays-erased : (args : List Argument) (s : State Cell) → erased (with_arrays tagged args s) ≡ with_arrays words args (erased s)
arrays-erased [] s = refl
arrays-erased (number n ∷ args) s = arrays-erased args s
arrays-erased (null ∷ args) s = arrays-erased args s
arrays-erased (bytes bs ∷ args) s =
    let cells : List Cell = map (λ b. tagged.short (byte_of_word b)) bs in
    arrays-erased args (with_object s Bytes cells)
    ∙ ap (λ (os : List (Object ℕ)). with_arrays words args (record (erased s) { heap = os }))
    (map-append (map_object word_of) s.heap (record { kind = Bytes; cells = cells } ∷ [])
    ∙ ap (λ (xs : List ℕ). map (map_object word_of) s.heap ++ record { kind = Bytes; cells = xs } ∷ [])
    (each-word (λ b. tagged.short (byte_of_word b)) bs))

argument-erased : (objects : ℕ) (arg : Argument) (ty : Ty) → map word_of (argument_cells tagged objects arg ty) ≡ argument_cells words objects arg ty
argument-erased objects arg ty = grind (arith)

handed-erased : (objects : ℕ) (args : List Argument) (tys : List Ty) → map word_of (cells_handed tagged objects args tys) ≡ cells_handed words objects
    args tys
handed-erased objects [] tys = refl
handed-erased objects (arg ∷ args) [] = refl
handed-erased objects (arg ∷ args) (ty ∷ tys) =
    let rest = cells_handed tagged (objects + arrays_made arg) args tys in
    map-append word_of (argument_cells tagged objects arg ty) rest
    ∙ (ap (λ (xs : List ℕ). xs ++ map word_of rest) (argument-erased objects arg ty)
    ∙ ap (λ (xs : List ℕ). argument_cells words objects arg ty ++ xs) (handed-erased (objects + arrays_made arg) args tys))

pub entry-erased : (w : Linked) (entry : ℕ) (args : List Argument) → erased (entry_state tagged w entry args) ≡ entry_state words w entry args
entry-erased w entry args =
    let types = of_method [] parameters (slice_get w.methods entry) in
    let cells = cells_handed tagged (length w.arrays) args types in
    let frame : map_frame word_of (entered tagged w.methods entry cells) ≡ entered words w.methods entry (cells_handed words (length w.arrays) args types) =
    entered-erased w.methods entry cells ∙ ap (entered words w.methods entry) (handed-erased (length w.arrays) args types) in
    let rest : erased (with_arrays tagged args (initial tagged w)) ≡ with_arrays words args (initial words w) =
    arrays-erased args (initial tagged w) ∙ ap (with_arrays words args) (initial-erased w) in
    ap (λ (s : State ℕ). record s { frames = map_frame word_of (entered tagged w.methods entry cells) ∷ [] }) rest
    ∙ ap (λ (f : Frame ℕ). record (with_arrays words args (initial words w)) { frames = f ∷ [] }) frame
