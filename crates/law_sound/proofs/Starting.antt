-- A run begins in a typed state.
use Rattle.std.proofs.Common.{◌≡◌, ℕ, zero, suc, ◌+◌, ◌*◌, ◌/◌, ◌%◌, Bool, true, false, not, if◌then◌else◌, List, []}
use Rattle.std.proofs.Common.{◌∷◌, ◌++◌, length, map, filter, refl, sym, ap, ◌∙◌, subst, arith, lit<, append_assoc}
use Rattle.std.specs.Prelude.{ℤ, Option, Some, None, All, slice_get, flat_map, option_map}
use Rattle.std.proofs.Math.Nat.{mul-div_cancel_left}
use Rattle.std.proofs.lemmas.Bool.{false≢true, and_parts, eqb-true, not-true}
use Rattle.std.proofs.lemmas.Option.{none-some}
use Rattle.std.proofs.lemmas.List.{append-nil, length_push, length-map, map-append}
use Rattle.std.proofs.lemmas.List.Elements.{All-nil, All-cons, All-head, All-tail, All-append, All-push, All-weaker}
use Rattle.jc_base.specs.declared.ty.Ty.{Ty}
use Rattle.jc_base.specs.declared.ty.Ty.TheVariants.{Bottom, Short, IntHigh, IntLow, Null, Class, ArrBool}
use Rattle.jc_base.specs.declared.ty.Ty.TheVariants.{ArrByte, ArrShort, ArrInt, ArrRef, Fresh, Top}
use Rattle.jc_base.specs.declared.ty.Kind.{Kind}
use Rattle.jc_base.specs.declared.ty.Kind.TheVariants as fields
use Rattle.jc_base.specs.declared.record.MethodRec.{MethodRec}
use Rattle.jc_base.specs.declared.record.StaticRec.{StaticRec}
use Rattle.jc_base.specs.declared.record.ArrayRec.{ArrayRec}
use Rattle.jc_base.specs.Class.{ClassTable}
use Rattle.jc_base.specs.Order.{Below, same, null_object, null_array, of_booleans, of_bytes, of_shorts, of_ints, of_references}
use Rattle.jc_base.specs.Cell.{IsReference, IsOfKind, AreWhole, no_cells as no_whole, whole_int}
use Rattle.jc_base.specs.Cell.{one_cell, IsNoHalf, IsInitialHandle, AreInitialWords}
use Rattle.jc_base.specs.Cell.{AreElementsOf}
use Rattle.jc_base.specs.Linked.{IsStatic, lacks_code, receiver_words}
use Rattle.jc_base.specs.World.{Linked, IsWorld}
use Rattle.jc_base.proofs.Lists.{All-slice_get, slice_get-front, IsSomeAnd-some}
use Rattle.jc_rules.specs.Flow.{CellsBelow, no_cells, more_cells, receiver_of}
use Rattle.jc_rules.proofs.CellLists.{cells-append, cells-length}
use Rattle.vm_store.specs.declared.cell.Cell.{Cell}
use Rattle.vm_store.specs.declared.cell.Cell.TheVariants as cells
use Rattle.vm_store.specs.declared.cell.ObjectKind.{ObjectKind}
use Rattle.vm_store.specs.declared.cell.ObjectKind.TheVariants as kinds
use Rattle.vm_store.specs.Kind.{kind_of_handle, type_of_kind}
use Rattle.vm_store.specs.Typing.{HasType, short, high, low, null, reference, least_type, type_of_handle}
use Rattle.vm_store.specs.Cells.{tagged}
use Rattle.vm_arithmetic.specs.Arithmetic.{short_of_word}
use Rattle.vm_store.specs.State.{Object, State}
use Rattle.vm_store.specs.Objects.{repeated}
use Rattle.vm_store.specs.Value.{byte_of_word}
use Rattle.vm_store.specs.Laws.{CellsHave, IsTypedObject, cell_types}
use Rattle.vm_store.proofs.NewObjects.{have-both, cells-kept}
use Rattle.vm_step.specs.declared.ending.StartFault.{StartFault}
use Rattle.vm_step.specs.Arguments.{Argument, number, null as no_object, bytes}
use Rattle.vm_step.specs.Objects.{kind_of_type}
use Rattle.vm_step.specs.Methods.{of_method}
use Rattle.vm_step.specs.Start.{field_cells, int_cells, initial_element_cells, initial_object}
use Rattle.vm_step.specs.Start.{with_arrays, argument_cells, cells_handed, can_begin}
use Rattle.vm_step.specs.Start.{is_parameter, parameters, fits, first_misfit, or_room, entry_fault, entry_state}
use Rattle.law_sound.specs.Frames.{Typings, least_types}
use Rattle.law_sound.specs.State.{CanBeMade, field_types, static_types, IsTypedState}
use Rattle.law_sound.specs.Soundness.{AreTypings, StartsAreTyped}
use Rattle.law_sound.specs.Handed.{nargs_of, StartsHandAll}
use Rattle.law_sound.proofs.Handles.{kinds_of, kind-type, new-kind, kinds-more}
use Rattle.law_sound.proofs.References.{null-reference}
use Rattle.law_sound.proofs.Entering.{entered-typed, method-known}
use Rattle.law_sound.proofs.Finish.{IsTypedStore}

-- ---- cells of initial words

module _ (t : ClassTable) (ks : List ObjectKind) where
  shorts-have : (g : ℕ → ℤ) (ws : List ℕ)
      → CellsHave t ks (map (λ w. cells.Short (g w)) ws) (repeated (length (map (λ w. cells.Short (g w)) ws)) (Short ∷ []))
  shorts-have g [] = tt {0}
  shorts-have g (w ∷ ws) = (short, tt, shorts-have g ws)

  record AreInts (ws : List ℕ) (n : ℕ) : Type 0 where
    count : length (int_cells tagged ws) ≡ 2 * n
    have : CellsHave t ks (int_cells tagged ws) (repeated n (IntHigh ∷ IntLow ∷ []))

  ints-have : (ws : List ℕ) (n : ℕ) → length ws ≡ 2 * n → AreInts ws n
  ints-have [] zero e = record { count = refl; have = tt {0} }
  ints-have [] (suc n) e = absurd (omega (arith, e))
  ints-have (w ∷ ws) zero e = absurd (omega (arith, e))
  ints-have (w ∷ []) (suc n) e = absurd (omega (arith, e))
  ints-have (v ∷ (w ∷ ws)) (suc n) e =
      let rest = ints-have ws n (omega (arith, e)) in
      record { count = omega (arith, rest.count); have = (high, tt, (low, tt, rest.have)) }

  int-elements : (ws : List ℕ) → length ws % 2 ≡ 0
      → CellsHave t ks (int_cells tagged ws) (repeated (length (int_cells tagged ws) / 2) (IntHigh ∷ IntLow ∷ []))
  int-elements ws even =
      let n : ℕ = length ws / 2 in
      let e : length ws ≡ 2 * n = omega (arith, even) in
      let all = ints-have ws n e in
      let half : n ≡ length (int_cells tagged ws) / 2 = sym (ap (λ k. k / 2) all.count ∙ mul-div_cancel_left n {n = 2} (lit< tt)) in
      subst (λ k. CellsHave t ks (int_cells tagged ws) (repeated k (IntHigh ∷ IntLow ∷ []))) half all.have

  elements-have :
      (ty : Ty) (ws : List ℕ) → AreElementsOf ty ws
      → CellsHave t ks (initial_element_cells tagged (kind_of_type ty) ws)
      (cell_types t (kind_of_type ty) (length (initial_element_cells tagged (kind_of_type ty) ws)))
  elements-have ArrBool ws h = shorts-have short_of_word ws
  elements-have ArrByte ws h = shorts-have short_of_word ws
  elements-have ArrShort ws h = shorts-have short_of_word ws
  elements-have ArrInt ws h = int-elements ws h
  elements-have ty ws h = absurd h

-- ---- initial arrays

kind-made : (w : Linked) (ty : Ty) (ws : List ℕ) → AreElementsOf ty ws → CanBeMade w (kind_of_type ty)
kind-made w ty ws h = grind (arith)

kind-is : (t : ClassTable) (ty : Ty) (ws : List ℕ) → AreElementsOf ty ws → type_of_kind t (kind_of_type ty) ≡ ty
kind-is t ty ws h = grind (arith)

initial-kind : (arrays : List ArrayRec) (n : ℕ) (a : ArrayRec) → slice_get arrays n ≡ Some a
    → slice_get (kinds_of (map (initial_object tagged) arrays)) n ≡ Some (kind_of_type a.kind)
initial-kind [] n a e = absurd (none-some a e)
initial-kind (x ∷ xs) zero a e = ap (λ (o : Option ArrayRec). option_map (λ (y : ArrayRec). kind_of_type y.kind) o) e
initial-kind (x ∷ xs) (suc n) a e = initial-kind xs n a e

initial-made : (w : Linked) (arrays : List ArrayRec) → All (λ (a : ArrayRec). AreElementsOf a.kind a.initial) arrays
    → All (CanBeMade w) (kinds_of (map (initial_object tagged) arrays))
initial-made w [] h = All-nil (CanBeMade w)
initial-made w (a ∷ arrays) h =
    All-cons (CanBeMade w) (kind_of_type a.kind) (kinds_of (map (initial_object tagged) arrays))
    (kind-made w a.kind a.initial (All-head (λ (a : ArrayRec). AreElementsOf a.kind a.initial) a arrays h))
    (initial-made w arrays (All-tail (λ (a : ArrayRec). AreElementsOf a.kind a.initial) a arrays h))

initial-objects :
    (t : ClassTable) (ks : List ObjectKind) (arrays : List ArrayRec) → All (λ (a : ArrayRec). AreElementsOf a.kind a.initial) arrays
    → All (IsTypedObject t ks) (map (initial_object tagged) arrays)
initial-objects t ks [] h = All-nil (IsTypedObject t ks)
initial-objects t ks (a ∷ arrays) h =
    All-cons (IsTypedObject t ks) (initial_object tagged a) (map (initial_object tagged) arrays)
    (elements-have t ks a.kind a.initial (All-head (λ (a : ArrayRec). AreElementsOf a.kind a.initial) a arrays h))
    (initial-objects t ks arrays (All-tail (λ (a : ArrayRec). AreElementsOf a.kind a.initial) a arrays h))

-- ---- static fields

module _ (w : Linked) (world : IsWorld w) where
  handle-has : (ty : Ty) (h : ℕ) → IsReference ty → IsInitialHandle w.classes w.arrays ty h
      → HasType w.classes (kinds_of (map (initial_object tagged) w.arrays)) (cells.Ref h) ty
  handle-has ty zero r h = null (null-reference w.classes ty r)
  handle-has ty (suc k) r h =
      let found = IsSomeAnd-some (λ (a : ArrayRec). Below w.classes a.kind ty) (slice_get w.arrays k) h in
      let elements = All-slice_get (λ (a : ArrayRec). AreElementsOf a.kind a.initial) w.arrays k found.0 world.arrays found.1 in
      reference (initial-kind w.arrays k found.0 found.1)
      (subst (λ a. Below w.classes a ty) (sym (kind-is w.classes found.0.kind found.0.initial elements)) found.2)

  field-have :
      (kind : Kind) (ty : Ty) (ws : List ℕ) → IsOfKind kind ty → AreInitialWords w.classes w.arrays kind ty ws
      → CellsHave w.classes (kinds_of (map (initial_object tagged) w.arrays)) (field_cells tagged kind ws) (field_types kind ty)
  field-have fields.Ref ty (h ∷ []) of_kind words = (handle-has ty h of_kind words, tt, tt {0})
  field-have fields.Byte ty (v ∷ []) of_kind words =
      (subst (HasType w.classes (kinds_of (map (initial_object tagged) w.arrays)) (cells.Short (short_of_word v))) (sym of_kind) short, tt, tt {0})
  field-have fields.Short ty (v ∷ []) of_kind words =
      (subst (HasType w.classes (kinds_of (map (initial_object tagged) w.arrays)) (cells.Short (short_of_word v))) (sym of_kind) short, tt, tt {0})
  field-have fields.Int ty (u ∷ (v ∷ [])) of_kind words =
      (subst (HasType w.classes (kinds_of (map (initial_object tagged) w.arrays)) (cells.High u)) (sym of_kind) high, tt, (low, tt, tt {0}))
  field-have fields.Ref ty [] of_kind words = absurd words
  field-have fields.Ref ty (h ∷ (v ∷ ws)) of_kind words = absurd words
  field-have fields.Byte ty [] of_kind words = absurd words
  field-have fields.Byte ty (h ∷ (v ∷ ws)) of_kind words = absurd words
  field-have fields.Short ty [] of_kind words = absurd words
  field-have fields.Short ty (h ∷ (v ∷ ws)) of_kind words = absurd words
  field-have fields.Int ty [] of_kind words = absurd words
  field-have fields.Int ty (h ∷ []) of_kind words = absurd words
  field-have fields.Int ty (h ∷ (v ∷ (x ∷ ws))) of_kind words = absurd words

  statics-have : (fs : List StaticRec) → All (IsStatic (length w.infos) w.classes w.arrays) fs
      → CellsHave w.classes (kinds_of (map (initial_object tagged) w.arrays)) (flat_map (λ (f : StaticRec). field_cells tagged f.kind f.initial) fs)
      (static_types fs)
  statics-have [] h = tt {0}
  statics-have (f ∷ fs) h =
      let first = All-head (IsStatic (length w.infos) w.classes w.arrays) f fs h in
      have-both w.classes (kinds_of (map (initial_object tagged) w.arrays)) (field_cells tagged f.kind f.initial)
      (flat_map (λ (g : StaticRec). field_cells tagged g.kind g.initial) fs)
      (field_types f.kind f.ty) (static_types fs) (field-have f.kind f.ty f.initial first.kind first.words)
      (statics-have fs (All-tail (IsStatic (length w.infos) w.classes w.arrays) f fs h))

  initial-store : IsTypedStore w (map (initial_object tagged) w.arrays) (flat_map (λ (f : StaticRec). field_cells tagged f.kind f.initial) w.statics)
  initial-store =
      record {
        made = initial-made w w.arrays world.arrays;
        objects = initial-objects w.classes (kinds_of (map (initial_object tagged) w.arrays)) w.arrays world.arrays;
        fields = statics-have w.statics world.statics;
      }

-- ---- arrays that are made of arguments

module _ (w : Linked) where
  object-more : (ks more : List ObjectKind) (os : List (Object Cell)) → All (IsTypedObject w.classes ks) os → All (IsTypedObject w.classes (ks ++ more)) os
  object-more ks more os h =
      All-weaker (IsTypedObject w.classes ks) (IsTypedObject w.classes (ks ++ more))
      (λ o typed. cells-kept w.classes ks more o.cells (cell_types w.classes o.kind (length o.cells)) typed) os h

  store-more : (heap : List (Object Cell)) (statics : List Cell) (bs : List ℕ) → IsTypedStore w heap statics
      → IsTypedStore w (heap ++ record { kind = kinds.Bytes; cells = map (λ b. cells.Short (byte_of_word b)) bs } ∷ []) statics
  store-more heap statics bs store =
      let o : Object Cell = record { kind = kinds.Bytes; cells = map (λ b. cells.Short (byte_of_word b)) bs } in
      let more : List ObjectKind = kinds_of heap ++ kinds.Bytes ∷ [] in
      let same = sym (kinds-more heap o) in
      record {
        made = subst (All (CanBeMade w)) same (All-push (CanBeMade w) (kinds_of heap) kinds.Bytes store.made tt);
        objects = subst (λ ks. All (IsTypedObject w.classes ks) (heap ++ o ∷ [])) same
            (All-append (IsTypedObject w.classes more) heap (o ∷ []) (object-more (kinds_of heap) (kinds.Bytes ∷ []) heap store.objects)
            (All-cons (IsTypedObject w.classes more) o [] (shorts-have w.classes more byte_of_word bs) (All-nil (IsTypedObject w.classes more))));
        fields = subst (λ ks. CellsHave w.classes ks statics (static_types w.statics)) same
            (cells-kept w.classes (kinds_of heap) (kinds.Bytes ∷ []) statics (static_types w.statics) store.fields);
      }

  arrays-store : (args : List Argument) (heap : List (Object Cell)) (statics : List Cell) → IsTypedStore w heap statics
      → IsTypedStore w (with_arrays tagged args (record { frames = []; heap = heap; statics = statics })).heap
      (with_arrays tagged args (record { frames = []; heap = heap; statics = statics })).statics
  arrays-store [] heap statics store = store
  arrays-store (number n ∷ args) heap statics store = arrays-store args heap statics store
  arrays-store (no_object ∷ args) heap statics store = arrays-store args heap statics store
  arrays-store (bytes bs ∷ args) heap statics store =
      arrays-store args (heap ++ record { kind = kinds.Bytes; cells = map (λ b. cells.Short (byte_of_word b)) bs } ∷ []) statics
      (store-more heap statics bs store)

  -- the objects that were there before are there
  record KeepsObjects (before after : List ObjectKind) : Type 0 where
    more : List ObjectKind
    whole : after ≡ before ++ more

  arrays-kept : (args : List Argument) (heap : List (Object Cell)) (statics : List Cell)
      → KeepsObjects (kinds_of heap) (kinds_of (with_arrays tagged args (record { frames = []; heap = heap; statics = statics })).heap)
  arrays-kept [] heap statics = record { more = []; whole = sym (append-nil (kinds_of heap)) }
  arrays-kept (number n ∷ args) heap statics = arrays-kept args heap statics
  arrays-kept (no_object ∷ args) heap statics = arrays-kept args heap statics
  arrays-kept (bytes bs ∷ args) heap statics =
      let o : Object Cell = record { kind = kinds.Bytes; cells = map (λ b. cells.Short (byte_of_word b)) bs } in
      let rest = arrays-kept args (heap ++ o ∷ []) statics in
      record {
        more = kinds.Bytes ∷ [] ++ rest.more;
        whole = rest.whole ∙ (ap (λ ks. ks ++ rest.more) (kinds-more heap o) ∙ append_assoc (kinds_of heap) (kinds.Bytes ∷ []) rest.more);
      }

-- ---- arguments and parameters

-- the words of a parameter
word_types : Ty → List Ty
word_types IntHigh = IntHigh ∷ IntLow ∷ []
word_types ty = ty ∷ []

words_of : List Ty → List Ty
words_of [] = []
words_of (ty ∷ types) = word_types ty ++ words_of types

one-word : (ty : Ty) (types : List Ty) → IsNoHalf ty → words_of (filter is_parameter (ty ∷ types)) ≡ ty ∷ words_of (filter is_parameter types)
unfolding words_of word_types
one-word IntHigh types h = absurd h
one-word IntLow types h = absurd h
one-word Bottom types h = refl
one-word Short types h = refl
one-word Null types h = refl
one-word (Class c) types h = refl
one-word ArrBool types h = refl
one-word ArrByte types h = refl
one-word ArrShort types h = refl
one-word ArrInt types h = refl
one-word (ArrRef c) types h = refl
one-word (Fresh p c) types h = refl
one-word Top types h = refl

words-are : {types : List Ty} → AreWhole types → words_of (filter is_parameter types) ≡ types
unfolding words_of word_types
words-are no_whole = refl
words-are (whole_int h) = ap (λ ts. IntHigh ∷ IntLow ∷ ts) (words-are h)
words-are (one_cell {a = a} {types = types} no_half h) = one-word a types no_half ∙ ap (λ ts. a ∷ ts) (words-are h)

module _ (t : ClassTable) (unset : Ty) (ks : List ObjectKind) where
  -- an argument that fits a parameter is below its words
  argument-below :
      (objects : ℕ) (arg : Argument) (ty : Ty) → fits arg ty ≡ true
      → ((bs : List ℕ) → arg ≡ bytes bs → kind_of_handle ks (objects + 1) ≡ Some kinds.Bytes)
      → CellsBelow t (least_types t unset ks (argument_cells tagged objects arg ty)) (word_types ty)
  unfolding word_types
  argument-below objects (number n) Short h there = more_cells same no_cells
  argument-below objects (number n) IntHigh h there = more_cells same (more_cells same no_cells)
  argument-below objects (number n) ty h there = absurd (false≢true h)
  argument-below objects no_object (Class c) h there = more_cells null_object no_cells
  argument-below objects no_object ArrBool h there = more_cells (null_array of_booleans) no_cells
  argument-below objects no_object ArrByte h there = more_cells (null_array of_bytes) no_cells
  argument-below objects no_object ArrShort h there = more_cells (null_array of_shorts) no_cells
  argument-below objects no_object ArrInt h there = more_cells (null_array of_ints) no_cells
  argument-below objects no_object (ArrRef c) h there = more_cells (null_array of_references) no_cells
  argument-below objects no_object ty h there = absurd (false≢true h)
  argument-below objects (bytes bs) ArrByte h there =
      let told : type_of_handle t ks (objects + 1) ≡ ArrByte = kind-type t ks (objects + 1) kinds.Bytes (there bs refl) in
      more_cells (subst (λ a. Below t a ArrByte) (sym told) same) no_cells
  argument-below objects (bytes bs) ty h there = absurd (false≢true h)

-- no argument is a misfit
fit-first : (n : ℕ) (arg : Argument) (ty : Ty) (args : List Argument) (types : List Ty) → first_misfit n (arg ∷ args) (ty ∷ types) ≡ None
    → (fits arg ty ≡ true) × (first_misfit (n + 1) args types ≡ None)
fit-first n arg ty args types e = go (fits arg ty) refl e
  where
    go : (b : Bool) → fits arg ty ≡ b → (if b then first_misfit (n + 1) args types else Some n) ≡ None → (fits arg ty ≡ true)
        × (first_misfit (n + 1) args types ≡ None)
    go true f h = (f, h)
    go false f h = absurd (none-some n (sym h))

module _ (w : Linked) (unset : Ty) where
  both-below :
      (ks : List ObjectKind) (cs ds : List Cell) (types others : List Ty)
      → CellsBelow w.classes (least_types w.classes unset ks cs) types → CellsBelow w.classes (least_types w.classes unset ks ds) others
      → CellsBelow w.classes (least_types w.classes unset ks (cs ++ ds)) (types ++ others)
  both-below ks cs ds types others h g = grind (arith, map-append, cells-append)

  handle-front : (ks more : List ObjectKind) (h : ℕ) (k : ObjectKind) → kind_of_handle ks h ≡ Some k → kind_of_handle (ks ++ more) h ≡ Some k
  handle-front ks more zero k e = e
  handle-front ks more (suc h) k e = slice_get-front ks more h k e

  handed-below :
      (args : List Argument) (types : List Ty) (n : ℕ) (heap : List (Object Cell)) (statics : List Cell)
      → length args ≡ length types → first_misfit n args types ≡ None
      → CellsBelow w.classes
      (least_types w.classes unset (kinds_of (with_arrays tagged args (record { frames = []; heap = heap; statics = statics })).heap)
      (cells_handed tagged (length heap) args types))
      (words_of types)
  unfolding words_of
  handed-below [] [] n heap statics e h = no_cells
  handed-below [] (ty ∷ types) n heap statics e h = absurd (omega (arith, e))
  handed-below (arg ∷ args) [] n heap statics e h = absurd (omega (arith, e))
  handed-below (number z ∷ args) (ty ∷ types) n heap statics e h =
      let parts = fit-first n (number z) ty args types h in
      let ks = kinds_of (with_arrays tagged args (record { frames = []; heap = heap; statics = statics })).heap in
      let rest = handed-below args types (n + 1) heap statics (omega (arith, e)) parts.1 in
      both-below ks (argument_cells tagged (length heap) (number z) ty) (cells_handed tagged (length heap + 0) args types) (word_types ty) (words_of types)
      (argument-below w.classes unset ks (length heap) (number z) ty parts.0 (λ bs same. absurd (cc)))
      (subst (λ k. CellsBelow w.classes (least_types w.classes unset ks (cells_handed tagged k args types)) (words_of types)) (omega arith) rest)
  handed-below (no_object ∷ args) (ty ∷ types) n heap statics e h =
      let parts = fit-first n no_object ty args types h in
      let ks = kinds_of (with_arrays tagged args (record { frames = []; heap = heap; statics = statics })).heap in
      let rest = handed-below args types (n + 1) heap statics (omega (arith, e)) parts.1 in
      both-below ks (argument_cells tagged (length heap) no_object ty) (cells_handed tagged (length heap + 0) args types) (word_types ty) (words_of types)
      (argument-below w.classes unset ks (length heap) no_object ty parts.0 (λ bs same. absurd (cc)))
      (subst (λ k. CellsBelow w.classes (least_types w.classes unset ks (cells_handed tagged k args types)) (words_of types)) (omega arith) rest)
  handed-below (bytes bs ∷ args) (ty ∷ types) n heap statics e h =
      let o : Object Cell = record { kind = kinds.Bytes; cells = map (λ b. cells.Short (byte_of_word b)) bs } in
      let parts = fit-first n (bytes bs) ty args types h in
      let ks = kinds_of (with_arrays tagged args (record { frames = []; heap = heap ++ o ∷ []; statics = statics })).heap in
      let rest = handed-below args types (n + 1) (heap ++ o ∷ []) statics (omega (arith, e)) parts.1 in
      let kept = arrays-kept w args (heap ++ o ∷ []) statics in
      let first : kind_of_handle (kinds_of (heap ++ o ∷ [])) (length heap + 1) ≡ Some kinds.Bytes =
      subst (λ xs. kind_of_handle xs (length heap + 1) ≡ Some kinds.Bytes) (sym (kinds-more heap o)) (new-kind heap o) in
      let there : kind_of_handle ks (length heap + 1) ≡ Some kinds.Bytes =
      subst (λ xs. kind_of_handle xs (length heap + 1) ≡ Some kinds.Bytes) (sym kept.whole)
      (handle-front (kinds_of (heap ++ o ∷ [])) kept.more (length heap + 1) kinds.Bytes first) in
      both-below ks (argument_cells tagged (length heap) (bytes bs) ty) (cells_handed tagged (length heap + 1) args types) (word_types ty) (words_of types)
      (argument-below w.classes unset ks (length heap) (bytes bs) ty parts.0 (λ x same. there))
      (subst (λ k. CellsBelow w.classes (least_types w.classes unset ks (cells_handed tagged k args types)) (words_of types)) (length_push heap o) rest)

-- ---- the entry

begins-by :
    (b c : Bool) (x y : StartFault) (misfit room : Option ℕ)
    → (if not b then Some x else if not c then Some y else or_room misfit room) ≡ None → (b ≡ true) × (c ≡ true) × (misfit ≡ None)
begins-by x c x2 y misfit room e = grind (arith, none-some)

module _ (w : Linked) (world : IsWorld w) (assigned : Typings) (typings : AreTypings w assigned) (entry : ℕ) (args : List Argument) where
  -- a static method with code, whose parameters the arguments fit
  method-starts :
      (m : MethodRec) → slice_get w.methods entry ≡ Some m → can_begin w m ≡ true → length args ≡ length (parameters m)
      → first_misfit 0 args (parameters m) ≡ None
      → IsTypedState w assigned (entry_state tagged w entry args)
  method-starts m is begins count fit =
      let heap : List (Object Cell) = map (initial_object tagged) w.arrays in
      let statics : List Cell = flat_map (λ (f : StaticRec). field_cells tagged f.kind f.initial) w.statics in
      let now : State Cell = with_arrays tagged args (record { frames = []; heap = heap; statics = statics }) in
      let ks : List ObjectKind = kinds_of now.heap in
      let two = and_parts m.is_static (not (lacks_code w.classes m)) begins in
      let code : lacks_code w.classes m ≡ false = not-true (lacks_code w.classes m) two.1 in
      let store = arrays-store w args heap statics (initial-store w world) in
      let handed = handed-below w (assigned.unset entry) args (parameters m) 0 heap statics count fit in
      let objects : length heap ≡ length w.arrays = length-map w.arrays (initial_object tagged) in
      let types_are : of_method [] parameters (slice_get w.methods entry) ≡ parameters m = ap (of_method [] parameters) is in
      let cells_are : List Cell = cells_handed tagged (length w.arrays) args (of_method [] parameters (slice_get w.methods entry)) in
      let same_cells : cells_handed tagged (length heap) args (parameters m) ≡ cells_are =
      ap (λ n. cells_handed tagged n args (parameters m)) objects ∙ ap (cells_handed tagged (length w.arrays) args) (sym types_are) in
      let words : words_of (parameters m) ≡ receiver_of m ++ m.sig.args =
      words-are (method-known w world entry m is).whole ∙ sym (ap (λ (b : Bool). (if b then [] else Class m.class ∷ []) ++ m.sig.args) two.0) in
      let lower : CellsBelow w.classes (least_types w.classes (assigned.unset entry) ks cells_are) (receiver_of m ++ m.sig.args) =
      subst (CellsBelow w.classes (least_types w.classes (assigned.unset entry) ks cells_are)) words
      (subst (λ cs. CellsBelow w.classes (least_types w.classes (assigned.unset entry) ks cs) (words_of (parameters m))) same_cells handed) in
      record {
        made = store.made;
        heap = store.objects;
        statics = store.fields;
        frames = (entered-typed w world assigned typings ks entry m is code cells_are lower, tt);
      }

  entry-starts : (o : Option MethodRec) → slice_get w.methods entry ≡ o → entry_fault w args o ≡ None
      → IsTypedState w assigned (entry_state tagged w entry args)
  entry-starts x is e = grind (arith, none-some, begins-by, method-starts, eqb-true)

pub starts-are-typed : (w : Linked) → IsWorld w → StartsAreTyped w
starts-are-typed w world assigned entry args s typings starts =
    subst (IsTypedState w assigned) (sym starts.state) (entry-starts w world assigned typings entry args (slice_get w.methods entry) refl starts.begins)

-- ---- as many cells as parameters

module _ (w : Linked) (world : IsWorld w) (entry : ℕ) (args : List Argument) where
  method-handed :
      (m : MethodRec) → slice_get w.methods entry ≡ Some m → length args ≡ length (parameters m) → first_misfit 0 args (parameters m) ≡ None
      → m.is_static ≡ true
      → length (cells_handed tagged (length w.arrays) args (of_method [] parameters (slice_get w.methods entry))) ≡ nargs_of w entry
  method-handed m is count fit static =
      let heap : List (Object Cell) = map (initial_object tagged) w.arrays in
      let statics : List Cell = flat_map (λ (f : StaticRec). field_cells tagged f.kind f.initial) w.statics in
      let ks : List ObjectKind = kinds_of (with_arrays tagged args (record { frames = []; heap = heap; statics = statics })).heap in
      let cs : List Cell = cells_handed tagged (length heap) args (parameters m) in
      let same = cells-length w.classes (handed-below w Bottom args (parameters m) 0 heap statics count fit) in
      let known = method-known w world entry m is in
      let words : words_of (parameters m) ≡ m.sig.args = words-are known.whole in
      let many : length cs ≡ length m.sig.args = sym (length-map cs (least_type w.classes Bottom ks)) ∙ (same ∙ ap length words) in
      let none : receiver_words m.is_static ≡ 0 = ap receiver_words static in
      let total : m.nargs ≡ length m.sig.args + receiver_words m.is_static = known.words in
      ap (λ o. length (cells_handed tagged (length w.arrays) args (of_method [] parameters o))) is
      ∙ (ap (λ n. length (cells_handed tagged n args (parameters m))) (sym (length-map w.arrays (initial_object tagged)))
      ∙ (omega (arith, many, none, total) ∙ sym (ap (of_method 0 (λ (x : MethodRec). x.nargs)) is)))

  entry-handed :
      (o : Option MethodRec) → slice_get w.methods entry ≡ o → entry_fault w args o ≡ None
      → length (cells_handed tagged (length w.arrays) args (of_method [] parameters (slice_get w.methods entry))) ≡ nargs_of w entry
  entry-handed x is e = grind (arith, none-some, begins-by, and_parts, not, method-handed, eqb-true)

pub starts-hand-all : (w : Linked) → IsWorld w → StartsHandAll w
starts-hand-all w world entry args begins = entry-handed w world entry args (slice_get w.methods entry) refl begins
