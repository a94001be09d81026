-- Elements of arrays at a frame's turn.
use Rattle.std.proofs.Common.{◌≡◌, ℕ, zero, suc, ◌+◌, ◌*◌, ◌/◌, ◌<◌, ◌⊎◌, inl, inr, ⊎_elim, Bool, true, false}
use Rattle.std.proofs.Common.{if◌then◌else◌, List, [], ◌∷◌, length, refl, sym, ap, ◌∙◌, subst, arith, div-one}
use Rattle.std.specs.Prelude.{ℤ, pos, negsuc, Some, None, slice_get, slice_index_or, option_and_then, nat_lt, ⊤}
use Rattle.std.proofs.lemmas.Bool.{false≢true}
use Rattle.std.proofs.lemmas.Bool.{ltb-true}
use Rattle.std.proofs.lemmas.Option.{none-some, same_Some}
use Rattle.jc_base.specs.declared.ty.Ty.{Ty}
use Rattle.jc_base.specs.declared.ty.Ty.TheVariants.{Short, IntHigh, IntLow, Class, ArrBool, ArrByte, ArrShort, ArrInt, ArrRef, Top}
use Rattle.jc_base.specs.declared.ty.Kind.{Kind}
use Rattle.jc_base.specs.declared.ty.Kind.TheVariants as fields
use Rattle.jc_base.specs.Class.{ClassTable, AreClasses, object, class_in_types}
use Rattle.jc_base.specs.Order.{Below, is_below}
use Rattle.jc_base.specs.Cell.{width}
use Rattle.jc_base.specs.World.{Linked, IsWorld}
use Rattle.jc_base.proofs.Subtypes.{is_below-from_Below}
use Rattle.jc_ops.specs.declared.operation.Operation.{Operation}
use Rattle.jc_ops.specs.declared.operation.Operation.TheVariants as ops
use Rattle.jc_ops.specs.Next.{falls_from}
use Rattle.jc_rules.specs.declared.effect.Cells.TheVariants as given
use Rattle.jc_rules.specs.Demand.{Meets}
use Rattle.jc_rules.specs.Rule.{effect, replacing, array_wanted, element}
use Rattle.jc_rules.specs.Flow.{no_cells, more_cells, IsNotTop, IsNotFresh}
use Rattle.vm_store.specs.declared.cell.Cell.{Cell}
use Rattle.vm_store.specs.declared.cell.Cell.TheVariants as cells
use Rattle.vm_store.specs.declared.cell.ObjectKind.{ObjectKind}
use Rattle.vm_store.specs.declared.cell.ObjectKind.TheVariants.{Booleans, Bytes, Shorts, Ints, References}
use Rattle.vm_store.specs.Kind.{kind_of_handle, type_of_kind, element_width}
use Rattle.vm_store.specs.Typing.{IsReady, least_type, type_of_handle}
use Rattle.vm_store.specs.Cells.{tagged, word_of}
use Rattle.vm_store.specs.State.{Frame, Object, State}
use Rattle.vm_store.specs.Objects.{object_at, object_cells, element_count, repeated}
use Rattle.vm_store.specs.Value.{value_in}
use Rattle.vm_store.specs.Laws.{cell_types, cell_type_at}
use Rattle.vm_step.specs.declared.ending.Exception.TheVariants as exceptions
use Rattle.vm_step.specs.Act.{goes}
use Rattle.vm_step.specs.Numbers.{short_at, replaced}
use Rattle.vm_step.specs.Fields.{element_count_in, elements_of, element_index, at_element, array_read_act}
use Rattle.vm_step.specs.Settled.{goes_to, settled}
use Rattle.law_sound.specs.Frames.{Typings, least_types, types_of_frame}
use Rattle.law_sound.specs.Soundness.{IsTypedOutcome}
use Rattle.law_sound.proofs.CellTypes.{has-below, IsReadyCell, stacked-filled}
use Rattle.law_sound.proofs.Handles.{kinds_of, kind-type}
use Rattle.law_sound.proofs.Ready.{value-ready}
use Rattle.law_sound.proofs.Cells.{cell-at, one-stacked, two-stacked, stacked-at}
use Rattle.law_sound.proofs.References.{reference-handle, reference-same, IsObject, handle-object}
use Rattle.law_sound.proofs.Registers.{asked-of}
use Rattle.law_sound.proofs.Writes.{with_heap, read-cell}
use Rattle.law_sound.proofs.SafeTurns.{Here, replace-safe, null-safe, some-safe}

-- the arrays whose elements an instruction for a kind reads and writes
abbrev pub Fits : Kind → ObjectKind → Type 0
Fits fields.Ref (References c) = ⊤
Fits fields.Byte Bytes = ⊤
Fits fields.Byte Booleans = ⊤
Fits fields.Short Shorts = ⊤
Fits fields.Int Ints = ⊤
Fits _ _ = ⊥

module _ (t : ClassTable) (are : AreClasses t) where
  no-test : {X : Type 0} → false ≡ true → X
  no-test e = absurd (false≢true e)

  fits-ref : (k : ObjectKind) → is_below t (type_of_kind t k) (ArrRef (object t)) ≡ true → Fits fields.Ref k
  unfolding is_below
  fits-ref x h = grind (arith, no-test)

  fits-byte : (k : ObjectKind) → is_below t (type_of_kind t k) ArrByte ≡ true → Fits fields.Byte k
  unfolding is_below
  fits-byte x h = grind (arith, no-test)

  fits-boolean : (k : ObjectKind) → is_below t (type_of_kind t k) ArrBool ≡ true → Fits fields.Byte k
  unfolding is_below
  fits-boolean x h = grind (arith, no-test)

  fits-short : (k : ObjectKind) → is_below t (type_of_kind t k) ArrShort ≡ true → Fits fields.Short k
  unfolding is_below
  fits-short x h = grind (arith, no-test)

  fits-int : (k : ObjectKind) → is_below t (type_of_kind t k) ArrInt ≡ true → Fits fields.Int k
  unfolding is_below
  fits-int x h = grind (arith, no-test)

-- ---- the types of elements

abbrev pub element_type : ClassTable → ObjectKind → Ty
element_type t (References c) = Class (class_in_types t c)
element_type t Ints = IntHigh
element_type t _ = Short

repeated-one : (n i : ℕ) (ty : Ty) → i < n → slice_get (repeated n (ty ∷ [])) i ≡ Some ty
repeated-one zero i ty lt = absurd (omega (arith, lt))
repeated-one (suc n) zero ty lt = refl
repeated-one (suc n) (suc i) ty lt = repeated-one n i ty (omega (arith, lt))

repeated-two : (n i : ℕ) (a b : Ty) → i < n → (slice_get (repeated n (a ∷ b ∷ [])) (i * 2) ≡ Some a)
    × (slice_get (repeated n (a ∷ b ∷ [])) (i * 2 + 1) ≡ Some b)
repeated-two zero i a b lt = absurd (omega (arith, lt))
repeated-two (suc n) zero a b lt = grind (arith)
repeated-two (suc n) (suc i) a b lt = grind (arith, suc, repeated-two n i a b (omega (arith, lt)))

types-one : (n i : ℕ) (ty : Ty) → i < n / 1 → slice_get (repeated n (ty ∷ [])) (i * 1) ≡ Some ty
types-one n i ty lt = repeated-one n (i * 1) ty (omega (arith, lt, div-one n))

element-first :
    (t : ClassTable) (fk : Kind) (k : ObjectKind) (n i : ℕ) → Fits fk k → i < n / element_width k → slice_get (cell_types t k n) (i * width fk)
    ≡ Some (element_type t k)
element-first t fk k n i fits lt = grind (arith, types-one, repeated-two)

element-second : (t : ClassTable) (k : ObjectKind) (n i : ℕ) → Fits fields.Int k → i < n / element_width k
    → slice_get (cell_types t k n) (i * 2 + 1) ≡ Some IntLow
element-second t Ints n i fits lt = (repeated-two (n / 2) i IntHigh IntLow lt).1
element-second t k n i fits lt = absurd fits

-- the index is that of an element
pub index-within : (z : ℤ) (count i : ℕ) → element_index z count ≡ Some i → i < count
index-within (pos n) count i e = go (nat_lt n count) refl e
  where
    go : (b : Bool) → nat_lt n count ≡ b → (if b then Some n else None) ≡ Some i → i < count
    go true l h = subst (λ k. k < count) (same_Some n i h) (ltb-true n count l)
    go false l h = absurd (none-some i h)
index-within (negsuc n) count i e = absurd (none-some i e)

-- the array of a handle, which fits the kind of the instruction
pub record IsArrayAt (t : ClassTable) (heap : List (Object Cell)) (h : ℕ) (fk : Kind) : Type 0 where
  pub object : Object Cell
  pub found : object_at (with_heap heap) h ≡ Some object
  pub kind_is : kind_of_handle (kinds_of heap) h ≡ Some object.kind
  pub fits : Fits fk object.kind

array-of : (t : ClassTable) (heap : List (Object Cell)) (h : ℕ) (fk : Kind) (ty : Ty) (o : IsObject t heap h ty) → Fits fk o.object.kind
    → IsArrayAt t heap h fk
array-of t heap h fk ty o fits = record { object = o.object; found = o.found; kind_is = o.kind_is; fits = fits }

pub array-there :
    (t : ClassTable) → AreClasses t → (unset : Ty) (heap : List (Object Cell)) (c : Cell) (fk : Kind)
    → (word_of c ≡ 0 → ⊥) → Meets t (array_wanted t fk) (least_type t unset (kinds_of heap) c) → IsArrayAt t heap (word_of c) fk
array-there t are unset heap c fields.Ref some meets =
    let o = handle-object t are heap (word_of c) (ArrRef (object t)) tt some (reference-handle t are unset (kinds_of heap) c (ArrRef (object t)) tt meets) in
    array-of t heap (word_of c) fields.Ref (ArrRef (object t)) o (fits-ref t are o.object.kind (is_below-from_Below t are o.below))
array-there t are unset heap c fields.Byte some (inl meets) =
    let o = handle-object t are heap (word_of c) ArrByte tt some (reference-handle t are unset (kinds_of heap) c ArrByte tt meets) in
    array-of t heap (word_of c) fields.Byte ArrByte o (fits-byte t are o.object.kind (is_below-from_Below t are o.below))
array-there t are unset heap c fields.Byte some (inr meets) =
    let o = handle-object t are heap (word_of c) ArrBool tt some (reference-handle t are unset (kinds_of heap) c ArrBool tt meets) in
    array-of t heap (word_of c) fields.Byte ArrBool o (fits-boolean t are o.object.kind (is_below-from_Below t are o.below))
array-there t are unset heap c fields.Short some meets =
    let o = handle-object t are heap (word_of c) ArrShort tt some (reference-handle t are unset (kinds_of heap) c ArrShort tt meets) in
    array-of t heap (word_of c) fields.Short ArrShort o (fits-short t are o.object.kind (is_below-from_Below t are o.below))
array-there t are unset heap c fields.Int some meets =
    let o = handle-object t are heap (word_of c) ArrInt tt some (reference-handle t are unset (kinds_of heap) c ArrInt tt meets) in
    array-of t heap (word_of c) fields.Int ArrInt o (fits-int t are o.object.kind (is_below-from_Below t are o.below))

-- the types of the cells of an element of it
module _ (t : ClassTable) (heap : List (Object Cell)) (h : ℕ) (fk : Kind) (a : IsArrayAt t heap h fk) (i : ℕ)
    (within : i < elements_of (with_heap heap) h) where
  counted : i < element_count a.object
  counted = subst (λ n. i < n) (ap element_count_in a.found) within

  types-at : (j : ℕ) → cell_type_at t (with_heap heap) h j ≡ slice_get (cell_types t a.object.kind (length a.object.cells)) j
  types-at j = ap (option_and_then (λ (o : Object Cell). slice_get (cell_types t o.kind (length o.cells)) j)) a.found

  pub first-at : cell_type_at t (with_heap heap) h (i * width fk) ≡ Some (element_type t a.object.kind)
  first-at = types-at (i * width fk) ∙ element-first t fk a.object.kind (length a.object.cells) i a.fits counted

pub second-at :
    (t : ClassTable) (heap : List (Object Cell)) (h : ℕ) (a : IsArrayAt t heap h fields.Int) (i : ℕ) → i < elements_of (with_heap heap) h
    → cell_type_at t (with_heap heap) h (i * 2 + 1) ≡ Some IntLow
second-at t heap h a i within =
    types-at t heap h fields.Int a i within (i * 2 + 1)
    ∙ element-second t a.object.kind (length a.object.cells) i a.fits (counted t heap h fields.Int a i within)

-- the type of an element of an array that fits
pub short-element : (t : ClassTable) (k : ObjectKind) → Fits fields.Byte k ⊎ Fits fields.Short k → element_type t k ≡ Short
short-element t y h = grind (arith, ⊎_elim)

pub int-element : (t : ClassTable) (k : ObjectKind) → Fits fields.Int k → element_type t k ≡ IntHigh
int-element t k h = grind (arith)

reference-element : (t : ClassTable) (k : ObjectKind) → Fits fields.Ref k → element_type t k ≡ element (type_of_kind t k)
reference-element t k h = grind (arith)

element-value : (t : ClassTable) (k : ObjectKind) → IsNotTop (element_type t k) × IsNotFresh (element_type t k)
element-value t y = grind (arith)

pub element-ready : (t : ClassTable) (k : ObjectKind) → IsReady (element_type t k)
element-ready t y = grind (arith)

-- ---- reading

module _ (w : Linked) (world : IsWorld w) (assigned : Typings) (f : Frame Cell) (below : List (Frame Cell)) (heap : List (Object Cell)) (statics : List Cell)
    (here : Here w assigned f below heap statics)
  where
    -- a cell that is read from an object is below its type, and ready
    pub record IsRead (h i : ℕ) (ty : Ty) : Type 0 where
      pub lower : Below w.classes
          (least_type w.classes (assigned.unset f.method) (kinds_of heap) (slice_index_or (object_cells (with_heap heap) h) i cells.Empty)) ty
      pub ready : IsReadyCell (slice_index_or (object_cells (with_heap heap) h) i cells.Empty)

    pub cell-read : (h i : ℕ) (ty : Ty) → IsNotTop ty → IsNotFresh ty → cell_type_at w.classes (with_heap heap) h i ≡ Some ty → IsRead h i ty
    cell-read h i ty top fresh e =
        let c : Cell = slice_index_or (object_cells (with_heap heap) h) i cells.Empty in
        let read = read-cell w.classes heap h i ty here.store.objects e in
        let lower = has-below w.classes (assigned.unset f.method) (kinds_of heap) world.chains c ty read.0 read.1 in
        record { lower = lower; ready = value-ready w.classes world.chains (assigned.unset f.method) (kinds_of heap) c ty read.1 fresh top lower }

    -- one cell that was read in place of cells of the stack
    pub read-one-safe :
        (h i taken : ℕ) (ty seen : Ty) (op : Operation)
        → here.turn.operation ≡ op
        → effect w op (types_of_frame w.classes (assigned.unset f.method) (kinds_of heap) f) ≡ replacing taken (given.One seen) → falls_from op ≡ true
        → ty ≡ seen → IsRead h i ty
        → IsTypedOutcome w assigned
        (goes_to tagged w (here.turn.stands.instruction.place + here.turn.stands.instruction.insn.len)
        (record { frames = f ∷ below; heap = heap; statics = statics })
        (replaced (record { frames = f ∷ below; heap = heap; statics = statics }) taken
        (slice_index_or (object_cells (with_heap heap) h) i cells.Empty ∷ [])))
    read-one-safe h i taken ty seen op is does falls e read =
        let c : Cell = slice_index_or (object_cells (with_heap heap) h) i cells.Empty in
        replace-safe w world assigned f below heap statics here taken (given.One seen) (c ∷ []) heap statics
        (ap (λ o. effect w o (types_of_frame w.classes (assigned.unset f.method) (kinds_of heap) f)) is ∙ does) (ap falls_from is ∙ falls)
        (more_cells (subst (Below w.classes (least_type w.classes (assigned.unset f.method) (kinds_of heap) c)) e read.lower) no_cells)
        (one-stacked w here.turn.stands.rec (kinds_of heap) c read.ready) here.store refl

    pub read-int-safe :
        (h i taken : ℕ) (op : Operation)
        → here.turn.operation ≡ op
        → effect w op (types_of_frame w.classes (assigned.unset f.method) (kinds_of heap) f) ≡ replacing taken given.Int → falls_from op ≡ true
        → IsRead h i IntHigh → IsRead h (i + 1) IntLow
        → IsTypedOutcome w assigned
        (goes_to tagged w (here.turn.stands.instruction.place + here.turn.stands.instruction.insn.len)
        (record { frames = f ∷ below; heap = heap; statics = statics })
        (replaced (record { frames = f ∷ below; heap = heap; statics = statics }) taken
        (slice_index_or (object_cells (with_heap heap) h) i cells.Empty ∷ slice_index_or (object_cells (with_heap heap) h) (i + 1) cells.Empty ∷ [])))
    read-int-safe h i taken op is does falls high low =
        let c : Cell = slice_index_or (object_cells (with_heap heap) h) i cells.Empty in
        let d : Cell = slice_index_or (object_cells (with_heap heap) h) (i + 1) cells.Empty in
        replace-safe w world assigned f below heap statics here taken given.Int (d ∷ c ∷ []) heap statics
        (ap (λ o. effect w o (types_of_frame w.classes (assigned.unset f.method) (kinds_of heap) f)) is ∙ does) (ap falls_from is ∙ falls)
        (more_cells low.lower (more_cells high.lower no_cells))
        (two-stacked w here.turn.stands.rec (kinds_of heap) d c low.ready high.ready) here.store refl

    -- the element of an array
    element-read :
        (fk : Kind) (h i : ℕ) → here.turn.operation ≡ ops.ArrayRead fk → h ≡ word_of (slice_index_or f.stack 1 cells.Empty)
        → (a : IsArrayAt w.classes heap h fk) → i < elements_of (with_heap heap) h
        → IsTypedOutcome w assigned
        (goes_to tagged w (here.turn.stands.instruction.place + here.turn.stands.instruction.insn.len)
        (record { frames = f ∷ below; heap = heap; statics = statics })
        (replaced (record { frames = f ∷ below; heap = heap; statics = statics }) 2 (value_in tagged fk (object_cells (with_heap heap) h) (i * width fk))))
    element-read fields.Ref h i is at a within =
        let t = w.classes in
        let ks = kinds_of heap in
        let k = a.object.kind in
        let c : Cell = slice_index_or f.stack 1 cells.Empty in
        let asked = asked-of w world assigned f below heap statics here (ops.ArrayRead fields.Ref) is in
        let cell = cell-at t (assigned.unset f.method) ks f.stack 1 (λ ty. Below t ty (ArrRef (object t))) asked.1.0 in
        let filled = stacked-filled w here.turn.stands.rec ks c (stacked-at w here.turn.stands.rec ks f.stack 1 cell.inside here.turn.stacked) in
        let type_is : least_type t (assigned.unset f.method) ks c ≡ type_of_kind t k =
        reference-same t world.chains (assigned.unset f.method) ks c (ArrRef (object t)) tt filled cell.holds
        ∙ (ap (type_of_handle t ks) (sym at) ∙ kind-type t ks h k a.kind_is) in
        read-one-safe h (i * 1) 2 (element_type t k) (element (slice_index_or (least_types t (assigned.unset f.method) ks f.stack) 1 Top))
        (ops.ArrayRead fields.Ref) is refl refl
        (reference-element t k a.fits ∙ ap element (sym type_is ∙ sym cell.seen))
        (cell-read h (i * 1) (element_type t k) (element-value t k).0 (element-value t k).1 (first-at t heap h fields.Ref a i within))
    element-read fields.Byte h i is at a within =
        let k = a.object.kind in
        read-one-safe h (i * 1) 2 (element_type w.classes k) Short (ops.ArrayRead fields.Byte) is refl refl (short-element w.classes k (inl a.fits))
        (cell-read h (i * 1) (element_type w.classes k) (element-value w.classes k).0 (element-value w.classes k).1
        (first-at w.classes heap h fields.Byte a i within))
    element-read fields.Short h i is at a within =
        let k = a.object.kind in
        read-one-safe h (i * 1) 2 (element_type w.classes k) Short (ops.ArrayRead fields.Short) is refl refl (short-element w.classes k (inr a.fits))
        (cell-read h (i * 1) (element_type w.classes k) (element-value w.classes k).0 (element-value w.classes k).1
        (first-at w.classes heap h fields.Short a i within))
    element-read fields.Int h i is at a within =
        read-int-safe h (i * 2) 2 (ops.ArrayRead fields.Int) is refl refl
        (cell-read h (i * 2) IntHigh tt tt (first-at w.classes heap h fields.Int a i within ∙ ap Some (int-element w.classes a.object.kind a.fits)))
        (cell-read h (i * 2 + 1) IntLow tt tt (second-at w.classes heap h a i within))

    pub array-read-safe :
        (fk : Kind) → here.turn.operation ≡ ops.ArrayRead fk
        → IsTypedOutcome w assigned
        (settled tagged w (here.turn.stands.instruction.place + here.turn.stands.instruction.insn.len)
        (record { frames = f ∷ below; heap = heap; statics = statics })
        (array_read_act tagged fk (record { frames = f ∷ below; heap = heap; statics = statics })))
    array-read-safe fk is =
        let now : State Cell = record { frames = f ∷ below; heap = heap; statics = statics } in
        let next : ℕ = here.turn.stands.instruction.place + here.turn.stands.instruction.insn.len in
        let c : Cell = slice_index_or f.stack 1 cells.Empty in
        let h : ℕ = word_of c in
        let asked = asked-of w world assigned f below heap statics here (ops.ArrayRead fk) is in
        let wanted = cell-at w.classes (assigned.unset f.method) (kinds_of heap) f.stack 1 (Meets w.classes (array_wanted w.classes fk)) asked.1.0 in
        null-safe w world assigned f below heap statics here next h
        (λ n. at_element (short_at tagged f.stack 0) (elements_of now n)
        (λ i. goes (replaced now 2 (value_in tagged fk (object_cells now n) (i * width fk)))))
        (λ some. some-safe w world assigned f below heap statics here next exceptions.ArrayIndex
        (element_index (short_at tagged f.stack 0) (elements_of now h))
        (λ i. goes (replaced now 2 (value_in tagged fk (object_cells now h) (i * width fk))))
        (λ i e. element-read fk h i is refl (array-there w.classes world.chains (assigned.unset f.method) heap c fk some wanted.holds)
        (index-within (short_at tagged f.stack 0) (elements_of now h) i e)))
